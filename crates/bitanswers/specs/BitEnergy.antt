-- bit_energy, the value at bits of the sum of every row's square and what its products of bits add: the answer, and what it says.
use Rattle.std.specs.Prelude.{◌≡◌, ◌↔◌, true, List, map, ℕ, zero, suc, Result, Ok, Err, ℤ, pos, ◌≤ℤ◌, length}
use Rattle.std.specs.Int.Signed.{lt_z}
use Rattle.integers.specs.Choice.{◌if◌else◌}
use Rattle.integers.specs.Lists.{all}
use Rattle.integers.specs.Number.{+0}
use Rattle.integers.specs.Terms.{value}
use Rattle.words.specs.Fault as Fault
use Rattle.words.specs.Faults.{fault_number}
use Rattle.words.specs.Refusal.{accepted, ◌at_place◌, ◌else_refuse◌}
use Rattle.words.specs.Answer.{written}
use Rattle.words.specs.Variables.{variables}
use Rattle.words.specs.Refusals.{Refusal}
use Rattle.words.specs.declared.fault.Refusal as error
use Rattle.rowsystems.specs.Row.{satisfied}
use Rattle.rowsystems.specs.RowSystem.{rows}
use Rattle.bitforms.specs.Energy.{energy}
use Rattle.bitforms.specs.BitForm.{bit_rows_of}
use Rattle.bitforms.specs.FormAnswer.{bit_form, bit_formed}
use Rattle.bitforms.specs.ReadForm.{read_form}
use Rattle.bitforms.specs.SameSolutions.{InBounds, ReadAs}
use Rattle.bitanswers.specs.BitFaults.{bits_fault}
use Rattle.bitanswers.specs.ReadValues.{read_values}

unfoldable pub energy_at : List ℕ → List ℕ → ℤ
energy_at ws bs = energy (value (map pos bs)) (bit_rows_of ws)

-- 2^62
abbrev pub energy_limit : ℕ
energy_limit = 4611686018427387904

-- the faults of bit_values but 16, then 24 where the energy is 2^62 or more
unfoldable pub energy_fault : List ℕ → List ℕ → Refusal
energy_fault ws bs =
    bits_fault ws bs else_refuse (accepted if lt_z (energy_at ws bs) (pos energy_limit) else Fault.form_too_large at_place 0)

pub data EnergyAnswer : Type 0 where
  -- a fault, and its place
  refused : (number place : ℕ) → EnergyAnswer
  energy_is : ℤ → EnergyAnswer

abbrev pub refused_or : ℕ → ℕ → EnergyAnswer → EnergyAnswer
refused_or zero p after = after
refused_or (suc n) p after = refused (suc n) p

unfoldable pub bit_energy : List ℕ → List ℕ → EnergyAnswer
bit_energy ws bs = refused_or (energy_fault ws bs).number (energy_fault ws bs).place (energy_is (energy_at ws bs))

-- of what a call answers
abbrev pub energy_of : Result ℤ error.Refusal → EnergyAnswer
energy_of (Ok e) = energy_is e
energy_of (Err r) = refused (fault_number r.fault) r.place

-- it is never below 0, and 0 only where the values of bit_values satisfy the row system
pub record EnergySays (ws bs : List ℕ) (e : ℤ) : Type 0 where
  pub never_below : +0 ≤ℤ e
  pub satisfies : e ≡ +0 → all (satisfied (value (read_values ws (map pos bs)))) (rows ws) ≡ true
  -- and values inside their bounds satisfy it exactly where some bits that read as them have the energy 0
  pub exact : (vs : List ℤ) → InBounds ws vs →
      (all (satisfied (value vs)) (rows ws) ≡ true) ↔ ((cs : List ℕ) × (ReadAs ws (length (variables ws)) (map pos cs) vs × (bit_energy ws cs ≡ energy_is +0)))

-- where bits writes a form of the row system, the energy is that form's value at the bits: then no bits without a fault are refused
abbrev pub AnswersForm : List ℕ → List ℕ → EnergyAnswer → Type 0
AnswersForm ws bs answer =
    (out : List ℕ) (n : ℕ) → bit_form ws (length out) ≡ written n → (bits_fault ws bs).number ≡ Fault.none →
    answer ≡ energy_is (read_form (bit_formed ws out) (map pos bs))
