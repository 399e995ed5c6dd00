-- The loop that adds weight × weight × bit: what is still to be added makes the sum whole.
use Rattle.std.proofs.Common.{◌≡◌, sym, ap, ◌∙◌, List, ◌++◌, ℕ, zero, suc, ◌+◌, ◌*◌, ◌-◌, ◌≤◌, ◌<◌, min, mul-le-mul_left, mul-add, arith, ℤ, pos, length}
use Rattle.integers.specs.Number.{◌⊕◌, ◌⊗◌, neg}
use Rattle.integers.specs.Terms.{sum}
use Rattle.integers.proofs.Linear.{linear}
use Rattle.bitforms.specs.Weights.{weights_from, weights}
use Rattle.bitforms.specs.OverBits.{weighted_bits, scaled}
use Rattle.bitforms.proofs.Sums.{sum-append, sum-scaled}
use Rattle.bitlines.proofs.Dense.{weights-rest}
use Rattle.bitrows.specs.Terms.{cross}
use Rattle.bitreading.specs.BitsGiven.{bits_in}

pub record Crossed (bs : List ℕ) (b : ℕ) (whole : ℤ) (stop most full total at weight left : ℕ) : Type 0 where
  pub sums : pos total ⊕ neg (sum (bits_in bs) (cross at (weights_from left weight left) (weights b))) ≡ whole
  pub place : at + 62 * left ≤ stop
  pub positive : 1 ≤ weight
  pub grown : 0 < left → weight + left ≤ most
  pub small : total + b * left ≤ full

pub crossed-begun : (bs : List ℕ) (first a b : ℕ) →
    Crossed bs b (neg (sum (bits_in bs) (cross first (weights a) (weights b)))) (first + 62 * a) (a + 1) (b * a) 0 first 1 a
unfolding weights
crossed-begun bs first a b = record { sums = start _; place = omega arith; positive = omega arith; grown = λ l. omega arith; small = omega arith }
  where
    start : (x : ℤ) → pos 0 ⊕ x ≡ x
    start = simp linear (omega arith)

module _ {bs : List ℕ} {b : ℕ} {whole : ℤ} {stop most full total at weight left : ℕ} where
  pub crossed-more : {x n : ℕ} → 0 < left → n ≡ length (weights b) → n ≤ 62 → (pos x ≡ sum (bits_in bs) (weighted_bits at (weights b))) × (x ≤ b) →
      Crossed bs b whole stop most full total at weight left → Crossed bs b whole stop most full (total + min weight left * x) (at + n) (weight + weight) (left - min weight left)
  unfolding weights_from cross
  crossed-more {x} {n} h e k w s = record {
    sums = next left h s.sums s.positive;
    place = let p = s.place in let q = s.positive in omega arith;
    positive = let q = s.positive in omega arith;
    grown = λ l. let g = s.grown h in omega arith;
    small = let q = s.small in let m = mul-le-mul_left (min weight left) w.1 in let r : left ≡ min weight left + (left - min weight left) = omega arith in let d : b * left ≡ b * min weight left + b * (left - min weight left) = ap (λ l. b * l) r ∙ mul-add b (min weight left) (left - min weight left) in omega (arith, m, d);
  }
    where
      step : (t w x : ℕ) (r y : ℤ) → pos t ⊕ neg (neg (pos w) ⊗ pos x ⊕ r) ≡ y → pos (t + w * x) ⊕ neg r ≡ y
      step = simp linear (omega arith)

      next : (l : ℕ) → 0 < l → pos total ⊕ neg (sum (bits_in bs) (cross at (weights_from l weight l) (weights b))) ≡ whole → 1 ≤ weight →
          pos (total + min weight l * x) ⊕ neg (sum (bits_in bs) (cross (at + n) (weights_from (l - min weight l) (weight + weight) (l - min weight l)) (weights b))) ≡ whole
      next zero l q o = absurd (omega arith)
      next (suc l) z q o =
          let rest = cross (at + length (weights b)) (weights_from l (2 * weight) (suc l - weight)) (weights b) in
          let c : sum (bits_in bs) (scaled (neg (pos (min weight (suc l)))) (weighted_bits at (weights b)) ++ rest) ≡ neg (pos (min weight (suc l))) ⊗ pos x ⊕ sum (bits_in bs) rest =
          sum-append (bits_in bs) (scaled (neg (pos (min weight (suc l)))) (weighted_bits at (weights b))) rest
          ∙ ap (λ y. y ⊕ sum (bits_in bs) rest) (sum-scaled (bits_in bs) (neg (pos (min weight (suc l)))) (weighted_bits at (weights b)) ∙ ap (λ y. neg (pos (min weight (suc l))) ⊗ y) (sym w.0)) in
          rw (e, ← weights-rest weight l o) (step total (min weight (suc l)) x _ whole (rw c at q))

  pub crossed-done : left ≤ 0 → Crossed bs b whole stop most full total at weight left → (pos total ≡ whole) × (total ≤ full)
  unfolding weights_from cross sum
  crossed-done h s = (last left h s.sums, let q = s.small in omega arith)
    where
      none : (x y : ℤ) → x ⊕ neg (pos 0) ≡ y → x ≡ y
      none = simp linear (omega arith)

      last : (n : ℕ) → n ≤ 0 → pos total ⊕ neg (sum (bits_in bs) (cross at (weights_from n weight n) (weights b))) ≡ whole → pos total ≡ whole
      last zero l e = none _ _ e
      last (suc n) l e = absurd (omega arith)
