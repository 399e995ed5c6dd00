-- The tokens of a statement as FlatZinc writes it, without the semicolon.
use Rattle.std.specs.Prelude.{true, false, List, [], ◌∷◌, ◌++◌, ℕ, ℤ, Option, Some, None}
use Prim.Native.Char.{code}
use Rattle.words.specs.Bytes.{bytes}
use Rattle.flattokens.specs.Token.{Token, name, number, float, dots, sign}
use Rattle.flatstatements.specs.Statement.{Literal, Element, Expression, Range, Goal, Statement}
use Rattle.flatstatements.specs.Statement as S

unfoldable pub literal_token : Literal → Token
literal_token (S.number n) = number n
literal_token (S.truth true) = name (bytes "true")
literal_token (S.truth false) = name (bytes "false")
literal_token (S.name bs) = name bs
literal_token (S.float bs) = float bs

-- further items, each behind a comma, and the closing bracket
unfoldable pub followed : {A : Type 0} → (A → List Token) → ℕ → List A → List Token
followed tokens close [] = sign close ∷ []
followed tokens close (x ∷ xs) = sign (code ",") ∷ (tokens x ++ followed tokens close xs)

-- items and the closing bracket
unfoldable pub listed : {A : Type 0} → (A → List Token) → ℕ → List A → List Token
listed tokens close [] = sign close ∷ []
listed tokens close (x ∷ xs) = tokens x ++ followed tokens close xs

abbrev pub number_tokens : ℤ → List Token
number_tokens n = number n ∷ []

unfoldable pub members_tokens : List ℤ → List Token
members_tokens ns = sign (code "{") ∷ listed number_tokens (code "}") ns

unfoldable pub element_tokens : Element → List Token
element_tokens (S.literal l) = literal_token l ∷ []
element_tokens (S.members ns) = members_tokens ns
element_tokens (S.range lo hi) = number lo ∷ (dots ∷ (number hi ∷ []))

unfoldable pub expression_tokens : Expression → List Token
expression_tokens (S.one e) = element_tokens e
expression_tokens (S.many es) = sign (code "[") ∷ listed element_tokens (code "]") es

unfoldable pub range_tokens : Range → List Token
range_tokens S.bools = name (bytes "bool") ∷ []
range_tokens (S.between lo hi) = number lo ∷ (dots ∷ (number hi ∷ []))
range_tokens (S.among ns) = members_tokens ns

unfoldable pub given_tokens : Option Literal → List Token
given_tokens None = []
given_tokens (Some l) = sign (code "=") ∷ (literal_token l ∷ [])

unfoldable pub goal_tokens : Goal → List Token
goal_tokens S.satisfy = name (bytes "satisfy") ∷ []
goal_tokens (S.minimize l) = name (bytes "minimize") ∷ (literal_token l ∷ [])
goal_tokens (S.maximize l) = name (bytes "maximize") ∷ (literal_token l ∷ [])

unfoldable pub tokens_of : Statement → List Token
tokens_of (S.predicate ts) = name (bytes "predicate") ∷ ts
tokens_of (S.parameter kind n notes v) = kind ++ (sign (code ":") ∷ (name n ∷ (notes ++ (sign (code "=") ∷ expression_tokens v))))
tokens_of (S.variable d n notes o) = name (bytes "var") ∷ (range_tokens d ++ (sign (code ":") ∷ (name n ∷ (notes ++ given_tokens o))))
tokens_of (S.constraint n vs notes) = name (bytes "constraint") ∷ (name n ∷ (sign (code "(") ∷ (listed expression_tokens (code ")") vs ++ notes)))
tokens_of (S.solve notes g) = name (bytes "solve") ∷ (notes ++ goal_tokens g)
