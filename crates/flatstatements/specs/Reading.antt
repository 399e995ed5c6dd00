-- The statement that a list of tokens is, read from left to right.
use Rattle.std.specs.Prelude.{Bool, true, false, ◌||◌, List, [], ◌∷◌, ℕ, zero, suc, ◌+◌, ◌<◌, eqb, ℤ, length, take, drop, Option, Some, None, option_map}
use Prim.Native.Char.{code}
use Rattle.std.specs.Str.{bytes_eq}
use Rattle.integers.specs.Choice.{◌if◌else◌}
use Rattle.integers.specs.Lists.{any}
use Rattle.words.specs.Bytes.{bytes}
use Rattle.std.specs.List.{prefix_len}
use Rattle.flattokens.specs.Token.{Token}
use Rattle.flattokens.specs.Token as t
use Rattle.flatstatements.specs.Statement.{Literal, Element, Expression, Range, Goal, Statement}
use Rattle.flatstatements.specs.Statement as S
use Rattle.flatstatements.specs.Front.{◌>>=◌, is_sign, is_word, is_dots, is_colons, begins, sign_at, name_at, number_at, ended}
use Rattle.flatstatements.specs.declared.notes.Place.{Place}
use Rattle.flatstatements.specs.declared.notes.Place.TheVariants.{Between, BehindColons, BehindName, Within}

-- ---- literals, elements, expressions

unfoldable pub literal_named : List ℕ → Literal
literal_named bs = S.truth true if bytes_eq bs (bytes "true") else S.truth false if bytes_eq bs (bytes "false") else S.name bs

unfoldable pub literal_from : Token → Option Literal
literal_from (t.name bs) = Some (literal_named bs)
literal_from (t.number n) = Some (S.number n)
literal_from (t.float bs) = Some (S.float bs)
literal_from _ = None

unfoldable pub literal_at : List Token → Option (Literal × List Token)
literal_at [] = None
literal_at (t ∷ ts) = option_map (λ l. (l, ts)) (literal_from t)

unfoldable pub number_in : Literal → Option ℤ
number_in (S.number n) = Some n
number_in _ = None

-- whether a comma stands in front, or else the closing bracket; and what is behind
unfoldable pub separator_at : ℕ → List Token → Option (Bool × List Token)
separator_at close ts =
    Some (true, drop 1 ts) if begins (is_sign (code ",")) ts
    else Some (false, drop 1 ts) if begins (is_sign close) ts
    else None

-- items, at most so many, a comma between two, and the closing bracket
unfoldable pub items_at : {A : Type 0} → (List Token → Option (A × List Token)) → ℕ → ℕ → List Token → Option (List A × List Token)
items_at item close zero ts = None
items_at item close (suc n) ts = do
  x ← item ts
  s ← separator_at close x.1
  (items_at item close n s.1 >>= λ more. Some (x.0 ∷ more.0, more.1)) if s.0 else Some (x.0 ∷ [], s.1)

-- some items; each has a token
unfoldable pub some_at : {A : Type 0} → (List Token → Option (A × List Token)) → ℕ → List Token → Option (List A × List Token)
some_at item close ts = items_at item close (length ts) ts

-- the items behind an opening bracket, perhaps none
unfoldable pub list_at : {A : Type 0} → (List Token → Option (A × List Token)) → ℕ → List Token → Option (List A × List Token)
list_at item close ts = Some ([], drop 1 ts) if begins (is_sign close) ts else some_at item close ts

unfoldable pub members_at : List Token → Option (List ℤ × List Token)
members_at = list_at number_at (code "}")

-- LO..HI behind the dots
unfoldable pub range_from : Literal → List Token → Option (Element × List Token)
range_from l ts = do
  lo ← number_in l
  hi ← number_at ts
  Some (S.range lo hi.0, hi.1)

unfoldable pub element_at : List Token → Option (Element × List Token)
element_at ts =
    (members_at (drop 1 ts) >>= λ x. Some (S.members x.0, x.1)) if begins (is_sign (code "{")) ts
    else (literal_at ts >>= λ l. range_from l.0 (drop 1 l.1) if begins is_dots l.1 else Some (S.literal l.0, l.1))

unfoldable pub elements_at : List Token → Option (List Element × List Token)
elements_at = list_at element_at (code "]")

unfoldable pub expression_at : List Token → Option (Expression × List Token)
expression_at ts =
    (elements_at (drop 1 ts) >>= λ x. Some (S.many x.0, x.1)) if begins (is_sign (code "[")) ts
    else (element_at ts >>= λ x. Some (S.one x.0, x.1))

unfoldable pub arguments_at : List Token → Option (List Expression × List Token)
arguments_at = list_at expression_at (code ")")

-- ---- annotations: each is "::" and a name, and perhaps brackets behind it

unfoldable pub is_name : Token → Bool
is_name (t.name bs) = true
is_name _ = false

unfoldable pub opens : Token → Bool
opens t = is_sign (code "(") t || is_sign (code "[") t || is_sign (code "{") t

unfoldable pub closes : Token → Bool
closes t = is_sign (code ")") t || is_sign (code "]") t || is_sign (code "}") t

-- behind a closing bracket that so many others are around
unfoldable pub out_of : ℕ → Place
out_of zero = Between
out_of (suc d) = Within d

-- where the next token leads, if it belongs to the annotations
unfoldable pub step : Place → Token → Option Place
step Between t = Some BehindColons if is_colons t else None
step BehindColons t = Some BehindName if is_name t else None
step BehindName t = Some (Within 0) if is_sign (code "(") t else Some BehindColons if is_colons t else None
step (Within d) t = Some (Within (suc d)) if opens t else Some (out_of d) if closes t else Some (Within d)

-- no more than so many brackets are around
abbrev pub IsShallow : Place → ℕ → Type 0
IsShallow (Within d) n = d < n
IsShallow _ n = Unit {0}

-- annotations may end here
unfoldable pub may_end : Place → Bool
may_end Between = true
may_end BehindColons = false
may_end BehindName = true
may_end (Within d) = false

abbrev pub then_step : Option ℕ → (Place → Option ℕ) → Option Place → Option ℕ
then_step here more None = here
then_step here more (Some p) = option_map (λ n. 1 + n) (more p)

-- how many tokens annotations have from a place in them on
unfoldable pub notes_length : Place → List Token → Option ℕ
notes_length p [] = Some 0 if may_end p else None
notes_length p (t ∷ ts) = then_step (Some 0 if may_end p else None) (λ q. notes_length q ts) (step p t)

unfoldable pub notes_at : List Token → Option (List Token × List Token)
notes_at ts = notes_length Between ts >>= λ n. Some (take n ts, drop n ts)

-- ---- statements

-- predicate NAME(..), which is read over
unfoldable pub predicate_read : List Token → Option Statement
predicate_read ts = notes_length BehindColons ts >>= λ n. ended (drop n ts) >>= λ u. Some (S.predicate (take n ts))

-- LO..HI
unfoldable pub bounds_at : List Token → Option (Range × List Token)
bounds_at ts = number_at ts >>= λ lo. (number_at (drop 1 lo.1) >>= λ hi. Some (S.between lo.0 hi.0, hi.1)) if begins is_dots lo.1 else None

-- bool, {N,..}, LO..HI
unfoldable pub domain_at : List Token → Option (Range × List Token)
domain_at ts =
    Some (S.bools, drop 1 ts) if begins (is_word (bytes "bool")) ts
    else (members_at (drop 1 ts) >>= λ x. Some (S.among x.0, x.1)) if begins (is_sign (code "{")) ts
    else bounds_at ts

-- the value that a variable is declared equal to, perhaps none, up to the end
unfoldable pub given_read : List Token → Option (Option Literal)
given_read ts =
    (literal_at (drop 1 ts) >>= λ l. ended l.1 >>= λ u. Some (Some l.0)) if begins (is_sign (code "=")) ts
    else (ended ts >>= λ u. Some None)

unfoldable pub variable_read : List Token → Option Statement
variable_read ts = do
  d ← domain_at ts
  r ← sign_at (code ":") d.1
  n ← name_at r
  o ← notes_at n.1
  g ← given_read o.1
  Some (S.variable d.0 n.0 o.0 g)

unfoldable pub constraint_read : List Token → Option Statement
constraint_read ts = do
  n ← name_at ts
  r ← sign_at (code "(") n.1
  v ← arguments_at r
  o ← notes_at v.1
  u ← ended o.1
  Some (S.constraint n.0 v.0 o.0)

-- what a solve item asks for, up to the end
unfoldable pub goal_read : List Token → Option Goal
goal_read ts =
    (ended (drop 1 ts) >>= λ u. Some S.satisfy) if begins (is_word (bytes "satisfy")) ts
    else (literal_at (drop 1 ts) >>= λ l. ended l.1 >>= λ u. Some (S.minimize l.0)) if begins (is_word (bytes "minimize")) ts
    else (literal_at (drop 1 ts) >>= λ l. ended l.1 >>= λ u. Some (S.maximize l.0)) if begins (is_word (bytes "maximize")) ts
    else None

unfoldable pub solve_read : List Token → Option Statement
solve_read ts = do
  o ← notes_at ts
  g ← goal_read o.1
  Some (S.solve o.0 g)

-- a parameter's type begins with these words, and has these words and signs
unfoldable pub begins_kind : Token → Bool
begins_kind t = is_word (bytes "array") t || is_word (bytes "int") t || is_word (bytes "bool") t || is_word (bytes "set") t || is_word (bytes "float") t

unfoldable pub is_kind_sign : ℕ → Bool
is_kind_sign b = any (eqb b) (bytes "[]{},")

unfoldable pub in_kind : Token → Bool
in_kind (t.name bs) = begins_kind (t.name bs) || is_word (bytes "of") (t.name bs) || is_word (bytes "var") (t.name bs)
in_kind (t.number n) = true
in_kind (t.float bs) = true
in_kind (t.text bs) = false
in_kind t.dots = true
in_kind t.colons = false
in_kind (t.sign b) = is_kind_sign b

unfoldable pub parameter_read : List Token → Option Statement
parameter_read ts = do
  r ← sign_at (code ":") (drop (prefix_len in_kind ts) ts)
  n ← name_at r
  o ← notes_at n.1
  e ← sign_at (code "=") o.1
  v ← expression_at e
  u ← ended v.1
  Some (S.parameter (take (prefix_len in_kind ts) ts) n.0 o.0 v.0)

-- the statement of all the tokens
unfoldable pub statement_read : List Token → Option Statement
statement_read ts =
    constraint_read (drop 1 ts) if begins (is_word (bytes "constraint")) ts
    else variable_read (drop 1 ts) if begins (is_word (bytes "var")) ts
    else parameter_read ts if begins begins_kind ts
    else predicate_read (drop 1 ts) if begins (is_word (bytes "predicate")) ts
    else solve_read (drop 1 ts) if begins (is_word (bytes "solve")) ts
    else None
