-- Translate: 1 to 14 and 18, then 16; else the words of the row system, laid over the lent output.
use Rattle.std.specs.Prelude.{List, ℕ, eqb, length}
use Rattle.integers.specs.Choice.{◌if◌else◌}
use Rattle.integers.specs.declared.Bounds.{Bounds}
use Rattle.words.specs.Limit as Limit
use Rattle.words.specs.Fault as Fault
use Rattle.words.specs.Overlay.{overlay}
use Rattle.words.specs.Refusal.{◌else_refuse◌, room_fault}
use Rattle.words.specs.Answer.{Answer, written, ◌else_answer◌}
use Rattle.words.specs.Refusals.{Refusal}
use Rattle.rules.specs.Translation.{system_words}
use Rattle.rules.specs.Check.{check_fault_in}

-- in a range of numbers
module _ (range : Bounds) where
  unfoldable pub translate_fault_in : List ℕ → ℕ → Refusal
  translate_fault_in ws room = check_fault_in range ws else_refuse room_fault room (length (system_words ws))

  -- the answer, how many words were written; and the output afterwards: "words past the end keep their values"
  unfoldable pub translate_in : List ℕ → ℕ → Answer
  translate_in ws room = translate_fault_in ws room else_answer written (length (system_words ws))

  unfoldable pub translated_in : List ℕ → List ℕ → List ℕ
  translated_in ws out = overlay out 0 (system_words ws) if eqb (translate_fault_in ws (length out)).number Fault.none else out

-- ---- In the range of 02

abbrev pub translate : List ℕ → ℕ → Answer
translate = translate_in Limit.range

abbrev pub translated : List ℕ → List ℕ → List ℕ
translated = translated_in Limit.range
