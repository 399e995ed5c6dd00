-- What holds of every text: a name keeps what it stands for, and no variable or constraint is dropped.
use Rattle.std.specs.Prelude.{◌≡◌, Bool, true, false, List, ℕ, length, Some}
use Rattle.integers.specs.Lists.{how_many}
use Rattle.flatstatements.specs.Statement.{Statement, predicate, parameter, variable, constraint, solve}
use Rattle.flatnames.specs.Scope.{Known}
use Rattle.flatnames.specs.Step.{State, Resolved, step, resolved}

abbrev pub is_variable : Statement → Bool
is_variable (predicate ts) = false
is_variable (parameter ks n ts x) = false
is_variable (variable r n ts o) = true
is_variable (constraint n xs ts) = false
is_variable (solve ts g) = false

abbrev pub is_constraint : Statement → Bool
is_constraint (predicate ts) = false
is_constraint (parameter ks n ts x) = false
is_constraint (variable r n ts o) = false
is_constraint (constraint n xs ts) = true
is_constraint (solve ts g) = false

-- no later declaration hides a name
abbrev pub Keeps : Type 0
Keeps = (S T : State) (t : Statement) → step S t ≡ Some T → (n : List ℕ) (k : Known) → S.scope n ≡ Some k → T.scope n ≡ Some k

-- a variable for each statement that declares one, an item for each constraint
abbrev pub DropsNothing : Type 0
DropsNothing =
    (ts : List Statement) (R : Resolved) → resolved ts ≡ Some R →
    (length R.flatzinc.variables ≡ how_many is_variable ts) × (length R.flatzinc.constraints ≡ how_many is_constraint ts)
