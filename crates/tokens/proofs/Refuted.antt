-- What Lexes is worth: it is false of wrong tokens of small texts.
use Rattle.std.proofs.Common.{◌≡◌, ap, List, [], ◌∷◌, map, ℕ, arith, length, get_or}
use Prim.Native.String.{String}
use Rattle.integers.specs.Lists.{any, list_of}
use Rattle.tokens.specs.Byte.{bytes, between, front, is_letter, in_name, is_digit, in_comment, is_gap, is_sign}
use Rattle.tokens.specs.Token as Token
use Rattle.tokens.specs.Token.{Token, token_length, starts_number, starts_dots, sort_of, tokens_from, tokens}
use Rattle.tokens.specs.Lexes.{Lexes}
use Rattle.tokens.proofs.Lexing.{lexes}

abbrev token : ℕ → ℕ → String → Token
token sort place spelling = record { sort = sort; place = place; spelling = bytes spelling }

-- a text does not have these tokens
abbrev Lacks : String → List Token → Type 0
Lacks text ts = Lexes 0 (bytes text) ts → ⊥

-- another number of tokens, another place or another sort of the first one
counted : (bs : List ℕ) (ts : List Token) → Lexes 0 bs ts → length ts ≡ length (tokens bs)
counted bs ts h = ap length ((lexes bs ts).0 h)

placed : (bs : List ℕ) (ts : List Token) → Lexes 0 bs ts → get_or (map (λ (t : Token). t.place) ts) 0 0 ≡ get_or (map (λ (t : Token). t.place) (tokens bs)) 0 0
placed bs ts h = ap (λ (us : List Token). get_or (map (λ (t : Token). t.place) us) 0 0) ((lexes bs ts).0 h)

sorted : (bs : List ℕ) (ts : List Token) → Lexes 0 bs ts → get_or (map (λ (t : Token). t.sort) ts) 0 0 ≡ get_or (map (λ (t : Token). t.sort) (tokens bs)) 0 0
sorted bs ts h = ap (λ (us : List Token). get_or (map (λ (t : Token). t.sort) us) 0 0) ((lexes bs ts).0 h)

-- a name in two, a number with a letter, a hyphen before a digit alone, a dot of two alone, a comment, a tab as a blank; a blank that does not count; a name of 33
-- bytes, a hyphen as a number
refuted : Lacks "ab" (token Token.name 0 "a" ∷ token Token.name 1 "b" ∷ []) × Lacks "4x" (token Token.number 0 "4x" ∷ []) × Lacks "-5" (token Token.broken 0 "-" ∷ token Token.number 1 "5" ∷ []) × Lacks ".." (token Token.broken 0 "." ∷ token Token.broken 1 "." ∷ []) × Lacks "%a" (token Token.name 1 "a" ∷ []) × Lacks "\t" [] × Lacks " a" (token Token.name 0 "a" ∷ []) × Lacks "abcdefghijklmnopqrstuvwxyz0123456" (token Token.name 0 "abcdefghijklmnopqrstuvwxyz0123456" ∷ []) × Lacks "-" (token Token.number 0 "-" ∷ [])
unfolding any list_of bytes between front is_letter in_name is_digit in_comment is_gap is_sign token_length starts_number starts_dots sort_of tokens_from tokens
refuted = (
  λ h. let e : 2 ≡ 1 = counted _ _ h in omega arith,
  λ h. let e : 1 ≡ 2 = counted _ _ h in omega arith,
  λ h. let e : 2 ≡ 1 = counted _ _ h in omega arith,
  λ h. let e : 2 ≡ 1 = counted _ _ h in omega arith,
  λ h. let e : 1 ≡ 0 = counted _ _ h in omega arith,
  λ h. let e : 0 ≡ 1 = counted _ _ h in omega arith,
  λ h. let e : 0 ≡ 1 = placed _ _ h in omega arith,
  λ h. let e : 2 ≡ 0 = sorted _ _ h in omega arith,
  λ h. let e : 1 ≡ 0 = sorted _ _ h in omega arith,
)
