-- The walk over the words that adds what rows count: what is left to add.
use Rattle.std.proofs.Common.{◌≡◌, refl, sym, ap, ◌∙◌, true, false, List, [], ◌∷◌, ℕ, zero, suc, ◌+◌, ◌*◌, ◌≤◌, ◌<◌, min, arith, ℤ, pos, length, get_or, drop}
use Rattle.integers.specs.declared.Bounds.{Bounds}
use Rattle.integers.specs.Number.{◌⊕◌, count}
use Rattle.integers.proofs.Bits.{Bit, b0, b1}
use Rattle.integers.proofs.Linear.{◌⊑◌, linear}
use Rattle.rowsystems.specs.OneWord.{starts_row}
use Rattle.bitforms.specs.SumOver.{sum_over}
use Rattle.bitforms.specs.BitRow.{BitRow}
use Rattle.bitforms.specs.Energy.{row_energy, energy}
use Rattle.bitforms.proofs.Bits.{Bits}
use Rattle.bitforms.proofs.Sound.{row-positive, energy-positive}
use Rattle.bittables.specs.BitTables.{rows_by}
use Rattle.bitfilling.proofs.Walk.{rows_left, next_row, left-none, left_one, left_end}
use Rattle.bitreading.specs.FineBits.{FineBits}
use Rattle.bitreading.specs.BitsGiven.{bits_in}
use Rattle.bitreading.proofs.Weighing.{bit-value}

pub fine-are : (bs : List ℕ) → FineBits bs → Bits (bits_in bs)
fine-are bs f i = rw (bit-value bs i) (small (get_or bs i 0) (f i))
  where
    small : (b : ℕ) → b < 2 → Bit (pos b)
    small zero h = b0
    small (suc zero) h = b1
    small (suc (suc b)) h = absurd (omega arith)

-- what rows count, one row first
counts-first : {γ : ℕ → ℤ} → Bits γ → (r : BitRow) (rs : List BitRow) → count (energy γ (r ∷ rs)) ≡ count (row_energy γ r) + count (energy γ rs)
unfolding energy sum_over
counts-first {γ} b r rs = sums (row_energy γ r) (sum_over (row_energy γ) rs) (row-positive b r) (energy-positive b rs)
  where
    sums : (x y : ℤ) → pos 0 ⊑ x → pos 0 ⊑ y → count (x ⊕ y) ≡ count x + count y
    sums = simp linear (omega arith)

pub record Adding (bs ws : List ℕ) (Ds : List Bounds) (firsts : List ℕ) (start total first at : ℕ) : Type 0 where
  pub place : at ≤ length ws
  pub small : first ≤ start + 3844 * at
  pub capped : total ≤ 4611686018427387904
  pub left : min (total + count (energy (bits_in bs) (rows_left Ds firsts ws first at))) 4611686018427387904 ≡ min (count (energy (bits_in bs) (rows_by Ds firsts start ws))) 4611686018427387904

module _ {bs ws : List ℕ} {Ds : List Bounds} {firsts : List ℕ} {start total first at : ℕ} (k : Adding bs ws Ds firsts start total first at) where
  pub adding_none : at < length ws → starts_row (get_or ws at 0) ≡ false → Adding bs ws Ds firsts start total first (at + 1)
  adding_none h z = record {
    place = omega arith;
    small = omega (arith, k.small);
    capped = k.capped;
    left = ap (λ rs. min (total + count (energy (bits_in bs) rs)) 4611686018427387904) (sym (left-none Ds firsts ws first at h z)) ∙ k.left;
  }

  pub adding_one : {own w later : ℕ} → FineBits bs → at < length ws → starts_row (get_or ws at 0) ≡ true → own ≤ 3844 → own ≡ (next_row Ds firsts ws first at).own →
      w ≡ min (count (row_energy (bits_in bs) (next_row Ds firsts ws first at))) 4611686018427387904 → later ≡ min (total + w) 4611686018427387904 → Adding bs ws Ds firsts start later (first + own) (at + 1)
  adding_one {own} {w} {later} f h z l e g t =
      let r = next_row Ds firsts ws first at in
      let c = counts-first (fine-are bs f) r (rows_by Ds firsts (first + r.own) (drop (at + 1) ws)) in
      let a = ap (λ rs. count (energy (bits_in bs) rs)) (left_one Ds firsts ws first at h z) in
      let n = ap (λ o. count (energy (bits_in bs) (rows_by Ds firsts (first + o) (drop (at + 1) ws)))) e in
      record { place = omega arith; small = omega (arith, k.small); capped = omega (arith, t); left = omega (arith, k.left, c, a, n, g, t) }

  pub adding_done : length ws ≤ at → total ≡ min (count (energy (bits_in bs) (rows_by Ds firsts start ws))) 4611686018427387904
  unfolding energy sum_over count
  adding_done h =
      let a = ap (λ rs. count (energy (bits_in bs) rs)) (left_end Ds firsts ws first at h) in
      let z : count (energy (bits_in bs) []) ≡ 0 = refl in
      omega (arith, k.left, k.capped, a, z)
