-- value_bits, the bits of values that satisfy a row system: the answer, what the lent list holds afterwards, and what the bits say.
use Rattle.std.specs.Prelude.{◌≡◌, ◌&&◌, List, map, ℕ, ◌≤◌, eqb, ℤ, pos, length, take}
use Rattle.integers.specs.Choice.{◌if◌else◌}
use Rattle.integers.specs.Number.{+0}
use Rattle.words.specs.Fault as Fault
use Rattle.words.specs.Variables.{variables}
use Rattle.words.specs.Overlay.{overlay}
use Rattle.words.specs.Refusal.{◌else_refuse◌, room_fault}
use Rattle.words.specs.Answer.{Answer, written, is_holds, ◌else_answer◌}
use Rattle.words.specs.Refusals.{Refusal}
use Rattle.rowsystems.specs.JudgeRows.{judge_rows}
use Rattle.bitforms.specs.BitForm.{bit_count}
use Rattle.bitforms.specs.FormAnswer.{size_fault}
use Rattle.bitforms.specs.ValueBits.{value_bits}
use Rattle.bitforms.specs.SameSolutions.{AreBits, ReadAs}
use Rattle.bitanswers.specs.ReadValues.{bit_values, bit_valued}
use Rattle.bitanswers.specs.BitEnergy.{energy_at, energy_is, bit_energy}

-- 23, then 16 for a short list
unfoldable pub value_bits_fault : List ℕ → ℕ → Refusal
value_bits_fault ws room = size_fault ws else_refuse room_fault room (bit_count ws)

-- judge-rows' answer where that is not "holds"; else 23 or 16, or how many bits there are
unfoldable pub value_bits_answer : List ℕ → List ℤ → ℕ → Answer
value_bits_answer ws vs room = (value_bits_fault ws room else_answer written (bit_count ws)) if is_holds (judge_rows ws vs) else judge_rows ws vs

-- bytes past the bits stay
unfoldable pub value_bits_written : List ℕ → List ℤ → List ℕ → List ℕ
value_bits_written ws vs out =
    overlay out 0 (value_bits ws vs) if is_holds (judge_rows ws vs) && eqb (value_bits_fault ws (length out)).number Fault.none else out

-- bits that read as the values and at which the form is 0
pub record ReadBy (ws bs : List ℕ) (vs : List ℤ) : Type 0 where
  pub are_bits : AreBits ws (map pos bs)
  pub read_as : ReadAs ws (length (variables ws)) (map pos bs) vs
  pub form_zero : energy_at ws bs ≡ +0

-- a solution goes out as bits and comes back as itself: bit_values gives the values again, and bit_energy 0
pub record ComesBack (ws bs : List ℕ) (vs : List ℤ) : Type 0 where
  pub answer_back : (room : ℕ) → length vs ≤ room → bit_values ws bs room ≡ written (length vs)
  pub values_back : (out : List ℤ) → length vs ≤ length out → bit_valued ws bs out ≡ overlay out 0 vs
  pub energy_back : bit_energy ws bs ≡ energy_is +0

-- where the answer is that n bits were written, the first n of the output
abbrev pub BitsRead : List ℕ → List ℤ → Answer → List ℕ → Type 0
BitsRead ws vs answer out = (n : ℕ) → answer ≡ written n → ReadBy ws (take n out) vs × ComesBack ws (take n out) vs
