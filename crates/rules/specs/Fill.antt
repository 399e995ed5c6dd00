-- Fill: 1 to 14 and 18, then 15, then 16; else judge-model's answer, and where that is "holds" the values and the auxiliaries that it picks.
use Rattle.std.specs.Prelude.{◌&&◌, List, ◌++◌, ℕ, ◌+◌, eqb, ℤ, length}
use Rattle.integers.specs.Choice.{◌if◌else◌}
use Rattle.integers.specs.declared.Bounds.{Bounds}
use Rattle.words.specs.Limit as Limit
use Rattle.words.specs.Fault as Fault
use Rattle.words.specs.Variables.{variables}
use Rattle.words.specs.Overlay.{overlay}
use Rattle.words.specs.Refusal.{◌else_refuse◌, count_fault, room_fault}
use Rattle.words.specs.Answer.{Answer, written, is_holds, ◌else_answer◌}
use Rattle.words.specs.Refusals.{Refusal}
use Rattle.models.specs.JudgeModel.{judge_accepted}
use Rattle.rules.specs.Translation.{auxiliaries, picks}
use Rattle.rules.specs.Check.{check_fault_in}

-- how many values fill writes: "for variables and auxiliaries together"
unfoldable pub filled_count : List ℕ → ℕ
filled_count ws = length (variables ws) + length (auxiliaries ws)

-- in a range of numbers
module _ (range : Bounds) where
  unfoldable pub fill_fault_in : List ℕ → List ℤ → ℕ → Refusal
  fill_fault_in ws vs room = check_fault_in range ws else_refuse count_fault ws vs else_refuse room_fault room (filled_count ws)

  -- "if judge-model says "holds", it writes these and the auxiliaries .. and answers how many; else it gives judge-model's answer and writes nothing"
  unfoldable pub fill_in : List ℕ → List ℤ → ℕ → Answer
  fill_in ws vs room =
      fill_fault_in ws vs room
      else_answer (written (filled_count ws) if is_holds (judge_accepted ws vs) else judge_accepted ws vs)

  unfoldable pub filled_in : List ℕ → List ℤ → List ℤ → List ℤ
  filled_in ws vs out =
      overlay out 0 (vs ++ picks ws vs) if eqb (fill_fault_in ws vs (length out)).number Fault.none && is_holds (judge_accepted ws vs)
      else out

-- ---- In the range of 02

abbrev pub fill : List ℕ → List ℤ → ℕ → Answer
fill = fill_in Limit.range

abbrev pub filled : List ℕ → List ℤ → List ℤ → List ℤ
filled = filled_in Limit.range
