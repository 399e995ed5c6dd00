-- The builtin of a code and the words after the head of a constraint, and short names for how a builtin takes its arguments from them.
use Rattle.std.specs.Prelude.{◌&&◌, List, ℕ, ◌+◌, leb, ℤ, pos, Option, Some, None}
use Rattle.integers.specs.Choice.{◌if◌else◌}
use Rattle.integers.specs.Number.{count}
use Rattle.integers.specs.Terms.{Term}
use Rattle.models.specs.Builtin.{Builtin}
use Rattle.models.specs.Model.{builtin, var, num, terms, past_terms}

abbrev pub builtin_of : ℕ → List ℕ → Builtin
builtin_of code ws = builtin (record { place = 0; code = code; arguments = ws })

-- two variables, three variables
abbrev pub two : (ℕ → ℕ → Builtin) → List ℕ → Builtin
two B ws = B (var ws 0) (var ws 1)

abbrev pub three : (ℕ → ℕ → ℕ → Builtin) → List ℕ → Builtin
three B ws = B (var ws 0) (var ws 1) (var ws 2)

-- terms and a number; these and a variable
abbrev pub linear : (List (Term ℕ) → ℤ → Builtin) → List ℕ → Builtin
linear B ws = B (terms ws 0) (num ws (past_terms ws 0))

abbrev pub linear_reified : (List (Term ℕ) → ℤ → ℕ → Builtin) → List ℕ → Builtin
linear_reified B ws = B (terms ws 0) (num ws (past_terms ws 0)) (var ws (past_terms ws 0 + 1))

-- no value is as far from 0: what a power that has left the values is cut to
abbrev pub far : ℤ
far = pos 268435456

-- a number as a place in a list of n elements, counted from 1, where the list has such a place
unfoldable pub index_in : ℕ → ℤ → Option ℕ
index_in n z = Some (count z) if leb 1 (count z) && leb (count z) n else None
