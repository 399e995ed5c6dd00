-- The faults, the answer, and what the lent output holds afterwards.
use Rattle.std.specs.Prelude.{Bool, List, ℕ, ltb, eqb, length}
use Rattle.integers.specs.Choice.{◌if◌else◌}
use Rattle.words.specs.Fault as Fault
use Rattle.words.specs.Variables.{variables}
use Rattle.words.specs.Overlay.{overlay}
use Rattle.words.specs.Refusal.{accepted, ◌at_place◌, ◌else_refuse◌, room_fault}
use Rattle.words.specs.Answer.{Answer, written, ◌else_answer◌}
use Rattle.words.specs.Refusals.{Refusal}
use Rattle.rowsystems.specs.Reading.{read_rows}
use Rattle.bitforms.specs.FormAnswer.{size_fault, all_fit, fits_or}
use Rattle.bestforms.specs.declared.Direction.{Direction}
use Rattle.bestforms.specs.BestForm.{best_constant, best_entries, best_words}

-- 26: the number names no variable; a direction is always one of the two here
unfoldable pub variable_fault : List ℕ → ℕ → Refusal
variable_fault ws v = accepted if ltb v (length (variables ws)) else Fault.no_such_variable at_place 0

-- 24: a row over bits has a coefficient or constant beyond plus or minus 16,384, as in the form that is taken, or an entry or the constant of this form is
-- outside the range
unfoldable pub best_fits : List ℕ → ℕ → Direction → Bool
best_fits ws v d = all_fit ws (best_constant ws v d) (best_entries ws v d)

unfoldable pub best_number_fault : List ℕ → ℕ → Direction → Refusal
best_number_fault ws v d = fits_or (best_fits ws v d)

-- judge-rows' faults but 15, then 23, 26, 24, and 16 for a short list
unfoldable pub best_bits_fault : List ℕ → ℕ → Direction → ℕ → Refusal
best_bits_fault ws v d room =
    read_rows ws else_refuse (size_fault ws else_refuse (variable_fault ws v else_refuse (best_number_fault ws v d else_refuse room_fault room (length (best_words ws v d)))))

-- the answer is the number of words; words past them stay
unfoldable pub best_bits : List ℕ → ℕ → Direction → ℕ → Answer
best_bits ws v d room = best_bits_fault ws v d room else_answer written (length (best_words ws v d))

unfoldable pub best_bitted : List ℕ → ℕ → Direction → List ℕ → List ℕ
best_bitted ws v d out = overlay out 0 (best_words ws v d) if eqb (best_bits_fault ws v d (length out)).number Fault.none else out
