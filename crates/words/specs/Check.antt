-- What a model's words and a row system's have alike: the fault of a number, and a step of a reading.
use Rattle.std.specs.Prelude.{not, ℕ, ◌+◌, eqb, Result, Ok, Err}
use Rattle.std.specs.Int.Signed.{lt_z}
use Rattle.integers.specs.Choice.{◌if◌else◌}
use Rattle.integers.specs.declared.Bounds.{Bounds}
use Rattle.words.specs.Fault as Fault
use Rattle.words.specs.Faults.{fault_number}
use Rattle.words.specs.Kind as Kind
use Rattle.words.specs.Limit as Limit
use Rattle.words.specs.Word.{kind, signed, too_low}
use Rattle.words.specs.declared.fault.Refusal.{Refusal}

-- of a number, in a range, outside which a signed payload has fault 18, "checked directly after 3": 3, 18
unfoldable pub fault_number_in : Bounds → ℕ → ℕ
fault_number_in range w =
    Fault.wrong_kind if not (eqb (kind w) Kind.number)
    else Fault.lowest_number if too_low range w
    else Fault.none

-- of an upper bound, whose kind is k, after the word of its lower one: 3, 18, 4
abbrev pub fault_upper_of : ℕ → ℕ → ℕ → ℕ
fault_upper_of k lower w =
    Fault.wrong_kind if not (eqb (kind w) k)
    else Fault.lowest_number if too_low Limit.range w
    else Fault.upper_below_lower if lt_z (signed w) (signed lower)
    else Fault.none

-- a step: where reading goes on, with number 0; or the number of a fault and its place
pub record Step : Type 0 where
  pub number : ℕ
  pub at : ℕ

-- of a function that answers where reading goes on
abbrev pub step_of : Result ℕ Refusal → Step
step_of (Ok at) = record { number = Fault.none; at = at }
step_of (Err r) = record { number = fault_number r.fault; at = r.place }

-- past a word with the fault f, if it is none
unfoldable pub step_over : ℕ → ℕ → Step
step_over f at = record { number = f; at = at + 1 } if eqb f Fault.none else record { number = f; at = at }
