-- Bits are lent as bytes, one a bit, 0 or 1. Their faults, for a row system's words: judge-rows' faults but 15 come first, then 23, then 15 where the number of
-- bits is not that of the form, then 25 where a bit is neither 0 nor 1, its place the number of the first such bit.
use Rattle.std.specs.Prelude.{List, [], ◌∷◌, ℕ, ◌+◌, ltb, eqb, length}
use Rattle.integers.specs.Choice.{◌if◌else◌}
use Rattle.words.specs.Fault as Fault
use Rattle.words.specs.Refusal.{accepted, ◌at_place◌, ◌else_refuse◌}
use Rattle.words.specs.Refusals.{Refusal}
use Rattle.rowsystems.specs.Reading.{read_rows}
use Rattle.bitforms.specs.BitForm.{bit_count}
use Rattle.bitforms.specs.FormAnswer.{size_fault}

-- 15: the number of bits is not that of the form, which is n
unfoldable pub bit_count_fault : ℕ → List ℕ → Refusal
bit_count_fault n bs = accepted if eqb (length bs) n else Fault.wrong_value_count at_place 0

-- the first of the bits from number p on that is neither 0 nor 1
unfoldable pub bit_fault_from : ℕ → List ℕ → Refusal
bit_fault_from p [] = accepted
bit_fault_from p (b ∷ bs) = let rest = bit_fault_from (p + 1) bs in rest if ltb b 2 else Fault.not_a_bit at_place p

unfoldable pub bits_fault : List ℕ → List ℕ → Refusal
bits_fault ws bs = read_rows ws else_refuse (size_fault ws else_refuse (bit_count_fault (bit_count ws) bs else_refuse bit_fault_from 0 bs))
