-- bit_values, the values that bits read as: the answer, what the lent list holds afterwards, and what the values say.
use Rattle.std.specs.Prelude.{◌≡◌, true, List, map, ℕ, eqb, ℤ, pos, length}
use Rattle.integers.specs.Choice.{◌if◌else◌}
use Rattle.integers.specs.Number.{+0}
use Rattle.integers.specs.Lists.{list_of, all}
use Rattle.integers.specs.Terms.{value}
use Rattle.words.specs.Fault as Fault
use Rattle.words.specs.Variables.{variables}
use Rattle.words.specs.Overlay.{overlay}
use Rattle.words.specs.Refusal.{◌else_refuse◌, room_fault}
use Rattle.words.specs.Answer.{Answer, written, ◌else_answer◌}
use Rattle.words.specs.Refusals.{Refusal}
use Rattle.rowsystems.specs.Row.{satisfied}
use Rattle.rowsystems.specs.RowSystem.{rows}
use Rattle.bitforms.specs.OverBits.{evaluate}
use Rattle.bitforms.specs.Energy.{energy}
use Rattle.bitforms.specs.BitForm.{encoding, bit_rows_of}
use Rattle.bitanswers.specs.BitFaults.{bits_fault}
use Rattle.bitforms.specs.SameSolutions.{AreBits, InBounds, ReadAs}

-- of every variable and auxiliary its lower bound and the sum of weight × bit
unfoldable pub read_values : List ℕ → List ℤ → List ℤ
read_values ws bs = list_of (λ v. evaluate (value bs) (encoding ws v)) (length (variables ws))

unfoldable pub bit_values_fault : List ℕ → List ℕ → ℕ → Refusal
bit_values_fault ws bs room = bits_fault ws bs else_refuse room_fault room (length (variables ws))

-- the answer is how many values there are; values past them stay
unfoldable pub bit_values : List ℕ → List ℕ → ℕ → Answer
bit_values ws bs room = bit_values_fault ws bs room else_answer written (length (variables ws))

unfoldable pub bit_valued : List ℕ → List ℕ → List ℤ → List ℤ
bit_valued ws bs out = overlay out 0 (read_values ws (map pos bs)) if eqb (bit_values_fault ws bs (length out)).number Fault.none else out

-- the values keep every bound, and where the form is 0 at the bits they satisfy the row system
pub record ReadsAs (ws bs : List ℕ) (vs : List ℤ) : Type 0 where
  pub are_bits : AreBits ws (map pos bs)
  pub in_bounds : InBounds ws vs
  pub read_as : ReadAs ws (length (variables ws)) (map pos bs) vs
  pub satisfies : energy (value (map pos bs)) (bit_rows_of ws) ≡ +0 → all (satisfied (value vs)) (rows ws) ≡ true
