-- The call with the direction as a number, as a host in C gives it: 0 the least, 1 the greatest. Any other number is refused as a variable that is not there
-- is: after the faults of the words and of the number of bits, before those of the form.
use Rattle.std.specs.Prelude.{◌≡◌, List, ℕ, zero, suc}
use Rattle.words.specs.Fault as Fault
use Rattle.words.specs.Refusal.{◌at_place◌, ◌else_refuse◌}
use Rattle.words.specs.Answer.{Answer, refused}
use Rattle.words.specs.Refusals.{Refusal}
use Rattle.rowsystems.specs.Reading.{read_rows}
use Rattle.bitforms.specs.FormAnswer.{size_fault}
use Rattle.bestforms.specs.declared.Direction.{Direction}
use Rattle.bestforms.specs.declared.Direction.TheVariants.{Least, Greatest}
use Rattle.bestforms.specs.BestAnswer.{best_bits, best_bitted}
use Rattle.bestforms.specs.BestShares.{BestShares}

abbrev pub number_of : Direction → ℕ
number_of Least = 0
number_of Greatest = 1

-- of a number that is neither
unfoldable pub direction_fault : List ℕ → Refusal
direction_fault ws = read_rows ws else_refuse (size_fault ws else_refuse (Fault.no_such_variable at_place 0))

unfoldable pub best_bits_by : List ℕ → ℕ → ℕ → ℕ → Answer
best_bits_by ws v zero room = best_bits ws v Least room
best_bits_by ws v (suc zero) room = best_bits ws v Greatest room
best_bits_by ws v (suc (suc k)) room = refused (direction_fault ws).number (direction_fault ws).place

unfoldable pub best_bitted_by : List ℕ → ℕ → ℕ → List ℕ → List ℕ
best_bitted_by ws v zero out = best_bitted ws v Least out
best_bitted_by ws v (suc zero) out = best_bitted ws v Greatest out
best_bitted_by ws v (suc (suc k)) out = out

-- what the words that were written say, of the direction that has the number
abbrev pub NumberedShares : List ℕ → ℕ → ℕ → Answer → List ℕ → Type 0
NumberedShares ws v k answer out = (d : Direction) → number_of d ≡ k → BestShares ws v d answer out
