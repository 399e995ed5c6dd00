-- What each fault says of the call's answer, in their order; else the value.
use Rattle.std.proofs.Common.{◌≡◌, refl, sym, ◌∙◌, Bool, true, false, List, ℕ, zero, suc, ◌≤◌, ◌<◌, min, arith, ℤ, pos}
use lib.Signed.{lt_z}
use Rattle.integers.specs.Choice.{◌if◌else◌}
use Rattle.integers.specs.Number.{count}
use Rattle.integers.proofs.Lists.{all_or_past}
use Rattle.integers.proofs.Linear.{◌⊑◌, ◌⊏◌, linear}
use Rattle.integers.proofs.Tests.{says-lt}
use Rattle.words.specs.Fault as Fault
use Rattle.words.specs.Refusal.{◌at_place◌, accepted, ◌else_refuse◌}
use Rattle.words.specs.Refusals.{Refusal}
use Rattle.words.proofs.Reading.{some-fault}
use Rattle.rowsystems.specs.Reading.{read_rows}
use Rattle.bitforms.specs.BitForm.{bit_rows_of, bit_count}
use Rattle.bitforms.specs.Energy.{energy}
use Rattle.bitforms.specs.FormAnswer.{size_fault}
use Rattle.bitforms.proofs.Sound.{energy-positive}
use Rattle.bitforms.specs.BitRow.{BitRow}
use Rattle.bitanswers.specs.BitFaults.{bits_fault}
use Rattle.bitanswers.specs.BitEnergy.{energy_at, energy_fault, EnergyAnswer, refused, energy_is, refused_or, bit_energy}
use Rattle.bitanswers.proofs.Faults.{bits-passed}
use Rattle.bitreading.specs.FineBits.{FineBits}
use Rattle.bitreading.specs.BitsGiven.{bits_in, bits_fault_by}
use Rattle.bitenergy.proofs.Walk.{fine-are}

first-refuses : (n p : ℕ) (after : EnergyAnswer) → (n ≡ 0 → ⊥) → refused n p ≡ refused_or n p after
first-refuses zero p after f = absurd (f refl)
first-refuses (suc n) p after f = refl

whole : (x : ℤ) → pos 0 ⊑ x → pos (count x) ≡ x
whole = simp linear (omega arith)

not-less : (x : ℤ) (n : ℕ) → 1 ≤ n → n ≤ count x → x ⊏ pos n → ⊥
not-less = simp linear (omega arith)

not-true : (t : Bool) → (t ≡ true → ⊥) → t ≡ false
not-true true f = absurd (f refl)
not-true false f = refl

module _ (ws bs : List ℕ) where
  refuses : (n p : ℕ) → (n ≡ 0 → ⊥) → bits_fault ws bs ≡ n at_place p → refused n p ≡ bit_energy ws bs
  unfolding bit_energy energy_fault ◌else_refuse◌
  refuses n p f e = rw (e, ← some-fault n p (accepted if lt_z (energy_at ws bs) (pos 4611686018427387904) else Fault.form_too_large at_place 0) f) (first-refuses n p (energy_is (energy_at ws bs)) f)

  pub stands : (r : Refusal) → r ≡ read_rows ws → (r.number ≡ 0 → ⊥) → refused r.number r.place ≡ bit_energy ws bs
  unfolding bits_fault ◌else_refuse◌
  stands r e f = refuses r.number r.place f (rw (← e) (sym (some-fault r.number r.place _ f)))

  module _ (z : read_rows ws ≡ accepted) {n : ℕ} (count-is : n ≡ bit_count ws) (r : Refusal) (e : r ≡ bits_fault_by n bs) where
    same-fault : bits_fault ws bs ≡ bits_fault_by n bs
    unfolding bits_fault bits_fault_by size_fault ◌else_refuse◌
    same-fault = rw (z, count-is)

    pub not-bits : (r.number ≡ 0 → ⊥) → refused r.number r.place ≡ bit_energy ws bs
    not-bits f = refuses r.number r.place f (same-fault ∙ sym e)

    module _ (none : r.number ≡ 0) where
      no_bits_fault : (bits_fault ws bs).number ≡ 0
      no_bits_fault = rw (same-fault, ← e) none

      pub fine-bits : FineBits bs
      fine-bits = all_or_past (λ b. b < 2) bs 0 (bits-passed ws bs no_bits_fault).fine (omega arith)

      pub too_large : 4611686018427387904 ≤ count (energy_at ws bs) → refused 24 0 ≡ bit_energy ws bs
      unfolding bit_energy energy_fault ◌else_refuse◌
      too_large l = rw (no_bits_fault, not-true (lt_z (energy_at ws bs) (pos 4611686018427387904)) (λ t. not-less (energy_at ws bs) 4611686018427387904 (omega arith) l ((says-lt (energy_at ws bs) (pos 4611686018427387904)).0 t)))

      nonneg : pos 0 ⊑ energy_at ws bs
      unfolding energy_at
      nonneg = energy-positive (fine-are bs fine-bits) (bit_rows_of ws)

      pub energy-is : count (energy_at ws bs) < 4611686018427387904 → energy_is (pos (count (energy_at ws bs))) ≡ bit_energy ws bs
      unfolding bit_energy energy_fault ◌else_refuse◌
      energy-is l = rw (whole (energy_at ws bs) nonneg, no_bits_fault, (says-lt (energy_at ws bs) (pos 4611686018427387904)).1 (below (energy_at ws bs) 4611686018427387904 l))
        where
          below : (x : ℤ) (n : ℕ) → count x < n → x ⊏ pos n
          below = simp linear (omega arith)

-- the value by the lists is the row system's
pub energy-by : (ws bs : List ℕ) {rs : List BitRow} {total : ℕ} → rs ≡ bit_rows_of ws → total ≡ min (count (energy (bits_in bs) rs)) 4611686018427387904 →
    total ≡ min (count (energy_at ws bs)) 4611686018427387904
unfolding energy_at
energy-by ws bs e f = rw e at f
