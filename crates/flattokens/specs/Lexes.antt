-- The bytes of a statement, one after the other: gaps, the spellings of its tokens, a semicolon.
use Rattle.std.specs.Prelude.{◌≡◌, true, false, List, [], ◌∷◌, ◌++◌, ℕ, ℤ, eqb, Some}
use Prim.Native.Char.{code}
use Rattle.integers.specs.Lists.{all}
use Rattle.tokens.specs.Byte.{in_comment, run}
use Rattle.flattokens.specs.Byte.{is_gap}
use Rattle.flattokens.specs.Reading.{number_value}
use Rattle.flattokens.specs.Token.{Token}
use Rattle.flattokens.specs.Token as t

-- the spellings of each token; a number has several
pub data Spells : Token → List ℕ → Type 0 where
  name : (x : List ℕ) → Spells (t.name x) x
  float : (x : List ℕ) → Spells (t.float x) x
  text : (x : List ℕ) → Spells (t.text x) x
  number : (z : ℤ) (x : List ℕ) → number_value x ≡ Some z → Spells (t.number z) x
  dots : Spells t.dots (code "." ∷ (code "." ∷ []))
  colons : Spells t.colons (code ":" ∷ (code ":" ∷ []))
  sign : (b : ℕ) → Spells (t.sign b) (b ∷ [])

-- these bytes are a statement of these tokens, and what is behind its semicolon
pub data Lexes : List ℕ → List Token → List ℕ → Type 0 where
  semicolon : (rest : List ℕ) → Lexes (code ";" ∷ rest) [] rest
  blank : (b : ℕ) (bs rest : List ℕ) (ts : List Token) → is_gap b ≡ true → eqb b (code "%") ≡ false → Lexes bs ts rest → Lexes (b ∷ bs) ts rest
  -- a comment goes on up to a line feed
  comment : (x bs rest : List ℕ) (ts : List Token) → all in_comment x ≡ true → run in_comment bs ≡ 0 → Lexes bs ts rest → Lexes (code "%" ∷ (x ++ bs)) ts rest
  token : (u : Token) (x bs rest : List ℕ) (ts : List Token) → Spells u x → Lexes bs ts rest → Lexes (x ++ bs) (u ∷ ts) rest
