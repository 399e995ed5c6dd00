-- The loop that adds weight × bit: what is still to be added makes the sum whole.
use Rattle.std.proofs.Common.{◌≡◌, refl, sym, ◌∙◌, List, [], ◌∷◌, ℕ, zero, suc, ◌+◌, ◌*◌, ◌-◌, ◌≤◌, ◌<◌, min, mul-le-mul_left, arith, ℤ, pos, get_or}
use Rattle.integers.specs.Number.{◌⊕◌, ◌⊗◌}
use Rattle.integers.specs.Terms.{value, sum}
use Rattle.integers.proofs.Linear.{linear}
use Rattle.integers.proofs.Sums.{plus-zero, zero-plus}
use Rattle.bitforms.specs.Weights.{weights_from, weights}
use Rattle.bitforms.specs.OverBits.{weighted_bits}
use Rattle.bitlines.proofs.Dense.{weights-rest}
use Rattle.bitreading.specs.FineBits.{FineBits}
use Rattle.bitreading.specs.BitsGiven.{bits_in}

pub bit-value : (bs : List ℕ) (i : ℕ) → bits_in bs i ≡ pos (get_or bs i 0)
unfolding value
bit-value [] i = refl
bit-value (b ∷ bs) zero = refl
bit-value (b ∷ bs) (suc i) = bit-value bs i

pub record Weighing (bs : List ℕ) (whole : ℤ) (stop most width total at weight left : ℕ) : Type 0 where
  pub sums : pos total ⊕ sum (bits_in bs) (weighted_bits at (weights_from left weight left)) ≡ whole
  pub place : at + left ≤ stop
  pub positive : 1 ≤ weight
  pub grown : 0 < left → weight + left ≤ most
  pub small : total + left ≤ width

pub begun : (bs : List ℕ) (first width : ℕ) → Weighing bs (sum (bits_in bs) (weighted_bits first (weights width))) (first + width) (width + 1) width 0 first 1 width
unfolding weights
begun bs first width = record { sums = zero-plus _; place = omega arith; positive = omega arith; grown = λ l. omega arith; small = omega arith }

-- a bit's weight is at most the weight
pub once : (bs : List ℕ) (w at : ℕ) → FineBits bs → w * get_or bs at 0 ≤ w
once bs w at f = let h : get_or bs at 0 ≤ 1 = omega (arith, f at) in omega (arith, mul-le-mul_left w h)

module _ {bs : List ℕ} {whole : ℤ} {stop most width total at weight left : ℕ} where
  pub more : FineBits bs → 0 < left → Weighing bs whole stop most width total at weight left →
      Weighing bs whole stop most width (total + min weight left * get_or bs at 0) (at + 1) (weight + weight) (left - min weight left)
  unfolding weights_from weighted_bits sum
  more f h s = record {
    sums = next left h s.sums s.positive;
    place = let p = s.place in let q = s.positive in omega arith;
    positive = let q = s.positive in omega arith;
    grown = λ l. let g = s.grown h in omega arith;
    small = let q = s.small in let o = once bs (min weight left) at f in omega arith;
  }
    where
      step : (t w b : ℕ) (r x : ℤ) → pos t ⊕ (pos w ⊗ pos b ⊕ r) ≡ x → pos (t + w * b) ⊕ r ≡ x
      step = simp linear (omega arith)

      next : (n : ℕ) → 0 < n → pos total ⊕ sum (bits_in bs) (weighted_bits at (weights_from n weight n)) ≡ whole → 1 ≤ weight →
          pos (total + min weight n * get_or bs at 0) ⊕ sum (bits_in bs) (weighted_bits (at + 1) (weights_from (n - min weight n) (weight + weight) (n - min weight n))) ≡ whole
      next zero l e o = absurd (omega arith)
      next (suc n) l e o =
          let a : at + 1 ≡ suc at = omega arith in
          rw (a, ← weights-rest weight n o) (step total (min weight (suc n)) (get_or bs at 0) _ whole (rw (bit-value bs at) at e))

  pub done : left ≤ 0 → Weighing bs whole stop most width total at weight left → (pos total ≡ whole) × (total ≤ width)
  unfolding weights_from weighted_bits sum
  done h s = (last left h s.sums, let q = s.small in omega arith)
    where
      last : (n : ℕ) → n ≤ 0 → pos total ⊕ sum (bits_in bs) (weighted_bits at (weights_from n weight n)) ≡ whole → pos total ≡ whole
      last zero l e = sym (plus-zero (pos total)) ∙ e
      last (suc n) l e = absurd (omega arith)
