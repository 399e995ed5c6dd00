-- Which tokens are those of a right text, and the words that they write: items `var L..U: NAME;` and `var bool: NAME;`, then `constraint BUILTIN(ARGUMENTS);`,
-- then one `solve satisfy;`. Each relation below takes the words of one part and the tokens from its first one on; `rest` are the tokens after the part. What
-- the words of a right text may still break is left to those who read them: specs/ModelWords.
use Rattle.std.specs.Prelude.{◌≡◌, true, List, [], ◌∷◌, ◌++◌, map, ℕ, suc, ◌<◌, ◌≤◌, length, get_or, take}
use Prim.Native.Char.{code}
use Prim.Native.String.{String}
use Rattle.words.specs.Word.{word, number_word, in_range}
use Rattle.words.specs.Fault as Fault
use Rattle.words.specs.Answer.{Answer, written, refusal_number}
use Rattle.words.specs.Kind as Kind
use Rattle.models.specs.Table as Table
use Rattle.models.specs.Table.{Sort, Code, codes}
use Rattle.tokens.specs.Token as Token
use Rattle.tokens.specs.Token.{Token}
use Rattle.tokens.specs.Lexes.{Lexes}
use Rattle.names.specs.Name.{is_word, look_up, code_of}
use Rattle.grammar.specs.Value.{value_of}

-- ---- one token, and the word that it writes
-- a sign, by its byte; ".." by that of one dot
abbrev pub Sign : ℕ → Token → Type 0
Sign byte t = t.sort ≡ byte

abbrev pub Keyword : String → Token → Type 0
Keyword w t = is_word w t ≡ true

-- a number in the range writes a word of the kind
abbrev pub Number : ℕ → ℕ → Token → Type 0
Number kind w t = (t.sort ≡ Token.number) × (in_range (value_of t.spelling) ≡ true) × (w ≡ number_word kind (value_of t.spelling))

-- the name of a variable that is declared so far writes the variable's number: its place among these names
abbrev pub Variable : List (List ℕ) → ℕ → Token → Type 0
Variable names w t = (t.sort ≡ Token.name) × ((i : ℕ) × ((look_up t.spelling 0 names ≡ suc i) × (w ≡ word Kind.variable i)))

-- a name that is not declared so far
abbrev pub NewName : List (List ℕ) → Token → Type 0
NewName names t = (t.sort ≡ Token.name) × (look_up t.spelling 0 names ≡ 0)

-- the name of the builtin with this code; codes begin at 1
abbrev pub Builtin : ℕ → Token → Type 0
Builtin c t = (t.sort ≡ Token.name) × (code_of t ≡ c) × (1 ≤ c)

-- ---- the inside of brackets and the closing one: commas stand between elements, none after the last. First what follows an element, then all
pub data Further (One : ℕ → Token → Type 0) (closing : ℕ) (rest : List Token) : List ℕ → List Token → Type 0 where
  closed : {b : Token} → Sign closing b → Further One closing rest [] (b ∷ rest)
  further : {c t : Token} {w : ℕ} {ws : List ℕ} {ts : List Token} → Sign (code ",") c → One w t → Further One closing rest ws ts → Further One closing rest (w ∷ ws) (c ∷ (t ∷ ts))

pub data Elements (One : ℕ → Token → Type 0) (closing : ℕ) (rest : List Token) : List ℕ → List Token → Type 0 where
  no-element : {b : Token} → Sign closing b → Elements One closing rest [] (b ∷ rest)
  elements : {t : Token} {w : ℕ} {ws : List ℕ} {ts : List Token} → One w t → Further One closing rest ws ts → Elements One closing rest (w ∷ ws) (t ∷ ts)

-- ---- an argument of each sort of the table of codes; a list and a set write their length before their elements
pub data Argument (names : List (List ℕ)) (rest : List Token) : Sort → List ℕ → List Token → Type 0 where
  integer-argument : {t : Token} {w : ℕ} → Variable names w t → Argument names rest Table.integer (w ∷ []) (t ∷ rest)
  boolean-argument : {t : Token} {w : ℕ} → Variable names w t → Argument names rest Table.boolean (w ∷ []) (t ∷ rest)
  number-argument : {t : Token} {w : ℕ} → Number Kind.number w t → Argument names rest Table.number (w ∷ []) (t ∷ rest)
  exponent-argument : {t : Token} {w : ℕ} → Number Kind.number w t → Argument names rest Table.exponent (w ∷ []) (t ∷ rest)
  number-list : {o : Token} {ws : List ℕ} {ts : List Token} → Sign (code "[") o → Elements (Number Kind.number) (code "]") rest ws ts → Argument names rest Table.numbers (word Kind.number (length ws) ∷ ws) (o ∷ ts)
  number-set : {o : Token} {ws : List ℕ} {ts : List Token} → Sign (code "{") o → Elements (Number Kind.number) (code "}") rest ws ts → Argument names rest Table.set (word Kind.number (length ws) ∷ ws) (o ∷ ts)
  integer-list : {o : Token} {ws : List ℕ} {ts : List Token} → Sign (code "[") o → Elements (Variable names) (code "]") rest ws ts → Argument names rest Table.integers (word Kind.number (length ws) ∷ ws) (o ∷ ts)
  boolean-list : {o : Token} {ws : List ℕ} {ts : List Token} → Sign (code "[") o → Elements (Variable names) (code "]") rest ws ts → Argument names rest Table.booleans (word Kind.number (length ws) ∷ ws) (o ∷ ts)
  -- a list of numbers, a comma and a list of as many variables; the length is written once
  parallel-lists : {o c p : Token} {ws vs : List ℕ} {ts us : List Token} → Sign (code "[") o → Elements (Number Kind.number) (code "]") (c ∷ (p ∷ us)) ws ts → Sign (code ",") c → Sign (code "[") p →
      Elements (Variable names) (code "]") rest vs us → length vs ≡ length ws → Argument names rest Table.parallel (word Kind.number (length ws) ∷ (ws ++ vs)) (o ∷ ts)

-- the arguments of a builtin, in the order of their sorts, with commas between and ")" after the last
pub data Arguments (names : List (List ℕ)) (rest : List Token) : List Sort → List ℕ → List Token → Type 0 where
  last-argument : {s : Sort} {p : Token} {ws : List ℕ} {ts : List Token} → Argument names (p ∷ rest) s ws ts → Sign (code ")") p → Arguments names rest (s ∷ []) ws ts
  more-arguments : {s : Sort} {ss : List Sort} {c : Token} {ws vs : List ℕ} {ts us : List Token} → Argument names (c ∷ us) s ws ts → Sign (code ",") c → Arguments names rest ss vs us → Arguments names rest (s ∷ ss) (ws ++ vs) ts

-- the sorts of the arguments of the builtin with a code
abbrev pub sorts_of : ℕ → List Sort
sorts_of c = get_or ([] ∷ map (λ (row : Code). row.sorts) codes) c []

-- ---- the items
-- declarations, where `names` are declared before them and `all` after them: a range writes its lower and its upper bound, "bool" one word
pub data Declarations (all : List (List ℕ)) (rest : List Token) : List (List ℕ) → List ℕ → List Token → Type 0 where
  no-declaration : Declarations all rest all [] rest
  integer-item : {names : List (List ℕ)} {v a d b c x e : Token} {l u : ℕ} {ws : List ℕ} {ts : List Token} → Keyword "var" v → Number Kind.lower l a → Sign (code ".") d → Number Kind.upper u b → Sign (code ":") c →
      NewName names x → Sign (code ";") e → Declarations all rest (names ++ (x.spelling ∷ [])) ws ts → Declarations all rest names (l ∷ (u ∷ ws)) (v ∷ a ∷ d ∷ b ∷ c ∷ x ∷ e ∷ ts)
  boolean-item : {names : List (List ℕ)} {v a c x e : Token} {ws : List ℕ} {ts : List Token} → Keyword "var" v → Keyword "bool" a → Sign (code ":") c →
      NewName names x → Sign (code ";") e → Declarations all rest (names ++ (x.spelling ∷ [])) ws ts → Declarations all rest names (word Kind.boolean 0 ∷ ws) (v ∷ a ∷ c ∷ x ∷ e ∷ ts)

-- constraints, where `names` are declared: the builtin's code, then its arguments
pub data Constraints (names : List (List ℕ)) (rest : List Token) : List ℕ → List Token → Type 0 where
  no-constraint : Constraints names rest [] rest
  constraint : {c : ℕ} {k b o e : Token} {ws vs : List ℕ} {ts us : List Token} → Keyword "constraint" k → Builtin c b → Sign (code "(") o → Arguments names (e ∷ us) (sorts_of c) ws ts → Sign (code ";") e →
      Constraints names rest vs us → Constraints names rest (word Kind.constraint c ∷ (ws ++ vs)) (k ∷ b ∷ o ∷ ts)

-- the whole text; after the ";" of its last item there is no token
pub data RightText : List ℕ → List Token → Type 0 where
  right-text : {names : List (List ℕ)} {ds cs : List ℕ} {ts us : List Token} {a b e : Token} → Declarations names us [] ds ts → Constraints names (a ∷ b ∷ e ∷ []) cs us →
      Keyword "solve" a → Keyword "satisfy" b → Sign (code ";") e → RightText (ds ++ (cs ++ (word Kind.model_end 0 ∷ []))) ts

-- ---- what a call that answers so says of the text
pub record ReadsRight (text : List ℕ) (answer : Answer) (out : List ℕ) : Type 0 where
  -- the text has these tokens and no others
  pub tokens : List Token
  pub lexed : Lexes 0 text tokens
  pub no_others : (ts : List Token) → Lexes 0 text ts → ts ≡ tokens
  -- it is right exactly where it is not refused with 19, 20 or 21
  pub right : refusal_number answer < Fault.breaks_grammar → (ws : List ℕ) × RightText ws tokens
  pub wrong : Fault.breaks_grammar ≤ refusal_number answer → (ws : List ℕ) → RightText ws tokens → ⊥
  -- and what are written are its words, and it has no others
  pub words : (n : ℕ) → answer ≡ written n → RightText (take n out) tokens
  pub no_other_words : (n : ℕ) → answer ≡ written n → (ws : List ℕ) → RightText ws tokens → ws ≡ take n out
