-- The tokens of a text, and where each begins: blanks, line feeds and comments may stand between tokens, and a token is the longest spelling that stands where
-- it begins.
use Rattle.std.specs.Prelude.{◌≡◌, true, false, List, [], ◌∷◌, ◌++◌, ℕ, ◌+◌, ◌<◌, ◌≤◌, length}
use Prim.Native.Char.{code}
use Rattle.integers.specs.Lists.{all}
use Rattle.words.specs.Limit as Limit
use Rattle.tokens.specs.Byte.{is_digit, is_letter, in_name, in_comment, is_gap, is_sign}
use Rattle.tokens.specs.Token as Token
use Rattle.tokens.specs.Token.{Token}

-- the spellings of each sort
pub data Spells : ℕ → List ℕ → Type 0 where
  -- a letter, then letters, digits or "_": up to 32 bytes are a name, more are no token of the language
  name : {b : ℕ} {bs : List ℕ} → is_letter b ≡ true → all in_name bs ≡ true → length (b ∷ bs) ≤ Limit.name_bytes → Spells Token.name (b ∷ bs)
  long-name : {b : ℕ} {bs : List ℕ} → is_letter b ≡ true → all in_name bs ≡ true → Limit.name_bytes < length (b ∷ bs) → Spells Token.broken (b ∷ bs)
  -- digits, or a hyphen and digits
  number : {b : ℕ} {bs : List ℕ} → all is_digit (b ∷ bs) ≡ true → Spells Token.number (b ∷ bs)
  negative : {b : ℕ} {bs : List ℕ} → all is_digit (b ∷ bs) ≡ true → Spells Token.number (code "-" ∷ (b ∷ bs))
  -- "..", and each sign of one byte
  dots : Spells (code ".") (code "." ∷ (code "." ∷ []))
  sign : {b : ℕ} → is_sign b ≡ true → Spells b (b ∷ [])
  -- any other byte, a hyphen or a dot by itself too, is no token of the language
  other : {b : ℕ} → is_gap b ≡ false → is_letter b ≡ false → is_digit b ≡ false → is_sign b ≡ false → Spells Token.broken (b ∷ [])

-- x, before these bytes, goes on to no longer spelling
abbrev pub Longest : List ℕ → List ℕ → Type 0
Longest x rest = (y z : List ℕ) (s : ℕ) → rest ≡ y ++ z → Spells s (x ++ y) → y ≡ []

-- from place p on these bytes have these tokens
pub data Lexes : ℕ → List ℕ → List Token → Type 0 where
  ending : {p : ℕ} → Lexes p [] []
  blank : {p : ℕ} {rest : List ℕ} {ts : List Token} → Lexes (p + 1) rest ts → Lexes p (code " " ∷ rest) ts
  line-feed : {p : ℕ} {rest : List ℕ} {ts : List Token} → Lexes (p + 1) rest ts → Lexes p (code "\n" ∷ rest) ts
  -- a comment ends before a line feed, or with the text
  comment : {p : ℕ} {rest : List ℕ} {ts : List Token} (x : List ℕ) → all in_comment x ≡ true → Lexes (p + 1 + length x) (code "\n" ∷ rest) ts → Lexes p (code "%" ∷ (x ++ (code "\n" ∷ rest))) ts
  last-comment : {p : ℕ} {x : List ℕ} → all in_comment x ≡ true → Lexes p (code "%" ∷ x) []
  token : {p s : ℕ} {x rest : List ℕ} {ts : List Token} → Spells s x → Longest x rest → Lexes (p + length x) rest ts → Lexes p (x ++ rest) (record { sort = s; place = p; spelling = x } ∷ ts)
