-- From statements to FlatZinc's items: the state after each statement, and what a whole text stands for.
use Rattle.std.specs.Prelude.{Bool, false, not, ◌&&◌, List, [], ◌∷◌, ◌++◌, ℕ, eqb, pos, length, Option, Some, None, is_some, option_and_then}
use Rattle.std.specs.Str.{bytes_eq}
use Prim.Native.Char.{code}
use Rattle.integers.specs.Choice.{◌if◌else◌}
use Rattle.integers.specs.Number.{◌≟◌}
use Rattle.words.specs.Bytes.{bytes}
use Rattle.flattokens.specs.Token.{Token, sign, dots}
use Rattle.flattokens.specs.Token as t
use Rattle.flatzinc.specs.declared.Atom.{Atom}
use Rattle.flatzinc.specs.Items.{Domain, Declared, Item, FlatZinc}
use Rattle.flatzinc.specs.Items as i
use Rattle.flatstatements.specs.Statement.{Literal, name, literal, Expression, one, many, Range, bools, between, among, Goal, Statement, predicate, parameter, variable, constraint, solve}
use Rattle.flatstatements.specs.Statement as s
use Rattle.flatnames.specs.Scope.{Scope, nothing, with, atom_of, known, arguments}
use Rattle.flatnames.specs.Scope as k
use Rattle.flatnames.specs.Due.{is_integer, item_fits, domain_fits, given_fits}
use Rattle.flatnames.specs.Named.{item_of}

-- what the solve item asks for
pub data Aim : Type 0 where
  satisfy : Aim
  minimize maximize : (a : Atom) → Aim

pub record State : Type 0 where
  pub scope : Scope
  pub variables : List Declared
  pub constraints : List Item
  pub aim : Option Aim

abbrev pub start : State
start = record { scope = nothing; variables = []; constraints = []; aim = None }

-- ---- parameters: what stands before the name is that of their value, which is no name

unfoldable pub is_array : List Token → Bool
is_array (t.name w ∷ ts) = bytes_eq w (bytes "array")
is_array ts = false

-- array [1..n] of ..
unfoldable pub has_length : ℕ → List Token → Bool
has_length n (t.name w ∷ sign b ∷ t.number l ∷ dots ∷ t.number u ∷ ts) = eqb b (code "[") && (l ≟ pos 1) && (u ≟ pos n)
has_length n ts = false

unfoldable pub kind_fits : List Token → Expression → Bool
kind_fits ks (one (literal (name q))) = false
kind_fits ks (one e) = not (is_array ks)
kind_fits ks (many es) = is_array ks && has_length (length es) ks

-- ---- variables

abbrev pub domain_of : Range → Domain
domain_of bools = i.bools
domain_of (between lo hi) = i.between lo hi
domain_of (among S) = i.among S

-- what it is declared equal to, an atom of its type
unfoldable pub given_of : State → Domain → Option Literal → Option (Option Atom)
given_of S d None = Some None
given_of S d (Some l) = option_and_then (λ a. Some (Some a) if given_fits S.variables d a else None) (atom_of S.scope (literal l))

-- what is minimized or maximized, an integer
unfoldable pub objective : State → Literal → Option Atom
objective S l = option_and_then (λ a. Some a if is_integer S.variables a else None) (atom_of S.scope (literal l))

unfoldable pub aim_of : State → Goal → Option Aim
aim_of S s.satisfy = Some satisfy
aim_of S (s.minimize l) = option_and_then (λ a. Some (minimize a)) (objective S l)
aim_of S (s.maximize l) = option_and_then (λ a. Some (maximize a)) (objective S l)

-- ---- the state after a statement; None where the statement cannot stand there

unfoldable pub after_parameter : State → List Token → List ℕ → Expression → Option State
after_parameter S ks n x =
    None if is_some (S.scope n)
    else (option_and_then (λ v. Some (record S { scope = with S.scope n v })) (known S.scope x) if kind_fits ks x else None)

unfoldable pub after_variable : State → Range → List ℕ → Option Literal → Option State
after_variable S r n o =
    None if is_some (S.scope n)
    else
    (option_and_then
    (λ g.
    Some (record S { scope = with S.scope n (k.variable (length S.variables)); variables = S.variables ++ record { domain = domain_of r; given = g } ∷ [] }))
    (given_of S (domain_of r) o) if domain_fits (domain_of r)
    else None)

unfoldable pub after_constraint : State → List ℕ → List Expression → Option State
after_constraint S n xs =
    option_and_then
    (λ vs. option_and_then (λ i. Some (record S { constraints = S.constraints ++ i ∷ [] }) if item_fits S.variables i else None) (item_of n vs))
    (arguments S.scope xs)

unfoldable pub after_solve : State → Goal → Option State
after_solve S g = None if is_some S.aim else option_and_then (λ a. Some (record S { aim = Some a })) (aim_of S g)

unfoldable pub step : State → Statement → Option State
step S (predicate ts) = Some S
step S (parameter ks n ts x) = after_parameter S ks n x
step S (variable r n ts o) = after_variable S r n o
step S (constraint n xs ts) = after_constraint S n xs
step S (solve ts g) = after_solve S g

unfoldable pub steps : State → List Statement → Option State
steps S [] = Some S
steps S (t ∷ ts) = option_and_then (λ T. steps T ts) (step S t)

-- ---- a text: from the start over all its statements, of which one is a solve item

pub record Resolved : Type 0 where
  pub flatzinc : FlatZinc
  pub aim : Aim

abbrev pub finished : State → Option Resolved
finished S = option_and_then (λ a. Some (record { flatzinc = record { variables = S.variables; constraints = S.constraints }; aim = a })) S.aim

unfoldable pub resolved : List Statement → Option Resolved
resolved ts = option_and_then finished (steps start ts)
