-- Where n words of rows and m values were written, these values satisfy these rows.
use Rattle.std.specs.Prelude.{List, ℕ, ℤ, take, Result, Ok, Err, ⊤}
use Rattle.words.specs.declared.fault.Refusal.{Refusal}
use Rattle.sharing.specs.SharedSolutions.{SatisfiesRows}
use Rattle.planner.specs.declared.Plan.{Plan}
use Rattle.planner.specs.declared.Plan.TheVariants.{Rows, NoSolution}

abbrev pub SolvesRows : Result Plan Refusal → List ℕ → List ℤ → Type 0
SolvesRows (Ok (Rows n m)) rows filled = SatisfiesRows (take n rows) (take m filled)
SolvesRows (Ok NoSolution) rows filled = ⊤
SolvesRows (Err e) rows filled = ⊤
