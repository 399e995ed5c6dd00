-- An energy that is answered is never below 0, and 0 only where the values that the bits read as satisfy the row system; and values that satisfy it have bits of
-- energy 0.
use Rattle.std.proofs.Common.{◌≡◌, refl, ◌∙◌, ◌↔◌, true, List, map, ℕ, zero, suc, arith, ℤ, pos, length}
use Rattle.integers.specs.Lists.{all}
use Rattle.integers.specs.Number.{+0}
use Rattle.integers.specs.Terms.{value}
use Rattle.words.specs.Variables.{variables}
use Rattle.rowsystems.specs.Row.{satisfied}
use Rattle.rowsystems.specs.RowSystem.{rows}
use Rattle.bitforms.specs.BitForm.{bit_rows_of}
use Rattle.bitforms.specs.SameSolutions.{InBounds, ReadAs}
use Rattle.bitforms.specs.ValueBits.{value_bits}
use Rattle.bitforms.proofs.Sound.{energy-positive}
use Rattle.bitforms.proofs.Theorem.{form-energy, zero-sound}
use Rattle.bitanswers.specs.BitFaults.{bits_fault}
use Rattle.bitanswers.specs.BitEnergy.{energy_at, energy_fault, energy_is, refused_or, bit_energy, EnergySays}
use Rattle.bitanswers.proofs.Faults.{Passed, bits-passed, first-passed}
use Rattle.bitanswers.proofs.ReadValues.{are_bits, bits_are, reads_as}
use Rattle.bitanswers.proofs.ValueBits.{Holding, read_by, comes-back}

answered : (k p : ℕ) (a e : ℤ) → refused_or k p (energy_is a) ≡ energy_is e → (k ≡ 0) × (a ≡ e)
answered zero p a e q = (refl, cc)
answered (suc k) p a e q = let z : ◌≡◌ {A = ℕ} 0 1 = cc in absurd (omega arith)

passed-energy : (ws bs : List ℕ) (e : ℤ) → bit_energy ws bs ≡ energy_is e → Passed ws bs × (energy_at ws bs ≡ e)
unfolding bit_energy energy_fault
passed-energy ws bs e q =
    let a = answered _ _ (energy_at ws bs) e q in
    (bits-passed ws bs (first-passed (bits_fault ws bs) _ a.0).0, a.1)

-- of words and a number of bits that are accepted
exactly : (ws bs : List ℕ) → Passed ws bs → (vs : List ℤ) → InBounds ws vs →
    (all (satisfied (value vs)) (rows ws) ≡ true) ↔ ((cs : List ℕ) × (ReadAs ws (length (variables ws)) (map pos cs) vs × (bit_energy ws cs ≡ energy_is +0)))
unfolding energy_at
exactly ws bs p vs i = (
  λ s.
      let h : Holding ws vs = record { read = p.read; inside = i; all_true = s } in
      (value_bits ws vs, ((read_by ws vs h).read_as, (comes-back ws vs h p.few).energy_back)),
  λ w.
      let cs = w.0 in
      let q = passed-energy ws cs +0 w.1.1 in
      zero-sound ws vs (map pos cs) i (are_bits ws cs q.0) w.1.0 (form-energy ws (value (map pos cs)) (bits_are ws cs q.0) ∙ q.1),
)

says : (ws bs : List ℕ) → Passed ws bs → EnergySays ws bs (energy_at ws bs)
unfolding energy_at
says ws bs p = record {
  never_below = energy-positive (bits_are ws bs p) (bit_rows_of ws);
  satisfies = (reads_as ws bs p).satisfies;
  exact = exactly ws bs p;
}

pub energy-answered : (ws bs : List ℕ) (e : ℤ) → bit_energy ws bs ≡ energy_is e → Passed ws bs × (energy_at ws bs ≡ e) × EnergySays ws bs e
energy-answered ws bs e q = let a = passed-energy ws bs e q in (a.0, a.1, rw (← a.1) (says ws bs a.0))
