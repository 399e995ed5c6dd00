-- What pairs of bits add: one more, and that the numbers are those of the definition's pairs.
use Rattle.std.proofs.Common.{◌≡◌, refl, sym, ap, ap₂, ◌∙◌, List, [], ◌∷◌, ℕ, suc, ◌+◌, ◌*◌, ◌≤◌, ◌<◌, add-one, add-zero, arith, ℤ, pos, length, get_or}
use mathlib.Core.Path.{fun_ext}
use Rattle.integers.specs.Number.{◌⊕◌, ◌⊖◌, ◌⊗◌, +2}
use Rattle.integers.specs.Lists.{list_of}
use Rattle.integers.specs.Terms.{Valuation, Term}
use Rattle.integers.proofs.Places.{one_more}
use Rattle.integers.proofs.Sums.{⊕_assoc, ⊕_zero_comm}
use Rattle.integers.proofs.Linear.{linear}
use Rattle.bitforms.specs.SumOver.{sum_over}
use Rattle.bitforms.specs.OverBits.{weighted_bits}
use Rattle.bitforms.specs.BitRow.{pairs_with, pairs_of}
use Rattle.bitforms.specs.Energy.{added}
use Rattle.bitforms.proofs.Sums.{sum_over-append}
use Rattle.bitlines.specs.Line.{pair_of}
use Rattle.bitforms.proofs.Complete.{length-weighted}
use Rattle.bitreading.specs.BitsGiven.{bits_in}
use Rattle.bitreading.proofs.Weighing.{bit-value}
use Rattle.bitenergy.specs.Pairs.{total, pairs_energy, grid_energy}

total-more : (f : ℕ → ℤ) (k : ℕ) → total f (k + 1) ≡ total f k ⊕ f k
unfolding sum_over
total-more f k = rw add-one (one_more (sum_over (λ x. x)) ◌⊕◌ (λ x. x) (λ x xs. refl) ⊕_assoc ⊕_zero_comm f k)

pub record Totalled (f : ℕ → ℤ) (n most sum k : ℕ) : Type 0 where
  pub place : k ≤ n
  pub is : pos sum ≡ total f k
  pub small : sum ≤ most * k

pub none_totalled : (f : ℕ → ℤ) (n most : ℕ) → Totalled f n most 0 0
unfolding list_of sum_over
none_totalled f n most = record { place = omega arith; is = refl; small = omega arith }

pub one_totalled : {f : ℕ → ℤ} {n most sum k : ℕ} (x : ℕ) → k < n → (pos x ≡ f k) × (x ≤ most) → Totalled f n most sum k → Totalled f n most (sum + x) (k + 1)
one_totalled {f} {n} {most} {sum} {k} x l h s = record {
  place = omega arith;
  is = plus sum x ∙ ap₂ ◌⊕◌ s.is h.0 ∙ sym (total-more f k);
  small = omega (arith, s.small, h.1);
}
  where
    plus : (a b : ℕ) → pos (a + b) ≡ pos a ⊕ pos b
    plus = simp linear (omega arith)

-- one pair
pub pair_is : (bs : List ℕ) (u v t x : ℕ) → pos x ≡ pos 3 ⊗ pos (get_or bs t 0) ⊕ pos (get_or bs u 0) ⊗ pos (get_or bs v 0) ⊖ +2 ⊗ pos (get_or bs u 0) ⊗ pos (get_or bs t 0) ⊖ +2 ⊗ pos (get_or bs v 0) ⊗ pos (get_or bs t 0) →
    pos x ≡ added (bits_in bs) (pair_of u v t)
unfolding added
pair_is bs u v t x e = rw (bit-value bs u, bit-value bs v, bit-value bs t) e

-- ---- the definition's pairs

module _ (γ : Valuation) where
  with-energy : (t : ℕ) (f : Term ℕ) (v : ℕ) (vs : List ℕ) → sum_over (added γ) (pairs_with t f (weighted_bits v vs)) ≡ pairs_energy γ f.variable v t (length vs)
  unfolding pairs_with weighted_bits sum_over list_of added
  with-energy t f v [] = refl
  with-energy t f v (w ∷ vs) =
      ap₂ ◌⊕◌ (rw (add-zero v, add-zero t)) (with-energy (suc t) f (suc v) vs ∙ ap (λ h. sum_over (λ x. x) (list_of h (length vs))) (fun_ext (λ i. moved i)))
    where
      moved : (i : ℕ) → added γ (pair_of f.variable (suc v + i) (suc t + i)) ≡ added γ (pair_of f.variable (v + suc i) (t + suc i))
      moved i =
          let a : suc v + i ≡ v + suc i = omega arith in
          let b : suc t + i ≡ t + suc i = omega arith in
          ap₂ (λ x y. added γ (pair_of f.variable x y)) a b

  pub grid-energy : (first u v : ℕ) (ws vs : List ℕ) → sum_over (added γ) (pairs_of first (weighted_bits u ws) (weighted_bits v vs)) ≡ grid_energy γ u v first (length ws) (length vs)
  unfolding pairs_of weighted_bits sum_over list_of
  grid-energy first u v [] vs = refl
  grid-energy first u v (w ∷ ws) vs =
      sum_over-append (added γ) (pairs_with first (record { coefficient = pos w; variable = u }) (weighted_bits v vs)) (pairs_of (first + length (weighted_bits v vs)) (weighted_bits (suc u) ws) (weighted_bits v vs))
      ∙ ap₂ ◌⊕◌ (with-energy first (record { coefficient = pos w; variable = u }) v vs ∙ here) (ap (λ n. sum_over (added γ) (pairs_of (first + n) (weighted_bits (suc u) ws) (weighted_bits v vs))) (length-weighted v vs)
      ∙ grid-energy (first + length vs) (suc u) v ws vs ∙ ap (λ h. sum_over (λ x. x) (list_of h (length ws))) (fun_ext (λ i. moved i)))
    where
      here : pairs_energy γ u v first (length vs) ≡ pairs_energy γ (u + 0) v (first + 0 * length vs) (length vs)
      here =
          let a : u ≡ u + 0 = omega arith in
          let b : first ≡ first + 0 * length vs = omega arith in
          ap₂ (λ x y. pairs_energy γ x v y (length vs)) a b

      moved : (i : ℕ) → pairs_energy γ (suc u + i) v (first + length vs + i * length vs) (length vs) ≡ pairs_energy γ (u + suc i) v (first + suc i * length vs) (length vs)
      moved i =
          let a : suc u + i ≡ u + suc i = omega arith in
          let b : first + length vs + i * length vs ≡ first + suc i * length vs = omega arith in
          ap₂ (λ x y. pairs_energy γ x v y (length vs)) a b
