-- 02, wish 11: "list all solutions of a model with at most 8 variables and at most 65,536 value lists in its bounds: each once, the first
-- variable changing slowest, values rising, written one after another. The answer is their count; values past them stay."
use Rattle.std.specs.Prelude.{Bool, ◌||◌, ℕ, ◌*◌, ltb, eqb, ℤ, length}
use mathlib.Core.List.{List, flatten}
use Rattle.integers.specs.Choice.{◌if◌else◌}
use Rattle.integers.specs.Lists.{all}
use Rattle.integers.specs.Terms.{value}
use Rattle.integers.specs.declared.Bounds.{Bounds}
use Rattle.words.specs.Fault as Fault
use Rattle.words.specs.Limit as Limit
use Rattle.words.specs.Variables.{variables}
use Rattle.words.specs.Overlay.{overlay}
use Rattle.words.specs.Refusal.{◌at_place◌, accepted, ◌else_refuse◌, room_fault}
use Rattle.words.specs.Answer.{Answer, written, ◌else_answer◌}
use Rattle.words.specs.Refusals.{Refusal}
use Rattle.models.specs.Meaning.{meaning}
use Rattle.models.specs.Model.{constraints, builtin}
use Rattle.rules.specs.Check.{check_fault}
use Rattle.rules.specs.Shared.{keep}
use Rattle.solutions.specs.Lists.{value_lists, list_count}

-- whether every builtin of the model is true of the values
unfoldable pub every_true : List ℕ → List ℤ → Bool
every_true ws vs = all (λ c. meaning (value vs) (builtin c)) (constraints ws)

unfoldable pub solutions : List ℕ → List (List ℤ)
solutions ws = keep (every_true ws) (value_lists (variables ws))

-- 22: "when the model passes either limit, place 0"
unfoldable pub lists_fault : List Bounds → Refusal
lists_fault Bs = Fault.too_many_lists at_place 0 if ltb Limit.listed_variables (length Bs) || ltb Limit.listed_lists (list_count Bs) else accepted

unfoldable pub solutions_fault : List ℕ → ℕ → Refusal
solutions_fault ws room =
    let short = room_fault room (length (solutions ws) * length (variables ws)) in
    check_fault ws else_refuse lists_fault (variables ws) else_refuse short

unfoldable pub solutions_answer : List ℕ → ℕ → Answer
solutions_answer ws room = solutions_fault ws room else_answer written (length (solutions ws))

unfoldable pub solutions_listed : List ℕ → List ℤ → List ℤ
solutions_listed ws out = overlay out 0 (flatten (solutions ws)) if eqb (solutions_fault ws (length out)).number Fault.none else out
