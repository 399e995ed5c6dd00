-- L and U of the first terms of a sum: with one term more, and that they fit.
use Rattle.std.proofs.Common.{◌≡◌, refl, ap, ap₂, sym, ◌∙◌, Bool, true, false, List, ℕ, zero, suc, ◌+◌, ◌*◌, ◌≤◌, arith, add-one, eqb, ℤ, nat_abs}
use Rattle.integers.specs.Choice.{◌if◌else◌}
use Rattle.integers.specs.Number.{◌⊕◌, ◌⊖◌, ◌⊗◌, min_z, max_z, +0, +1, -1}
use Rattle.integers.specs.Bounds.{◌to◌}
use Rattle.integers.specs.Lists.{list_of}
use Rattle.integers.specs.Terms.{Term, ◌·◌}
use Rattle.integers.specs.declared.Bounds.{Bounds}
use Rattle.integers.proofs.Fits.{plus-size, minus-size}
use Rattle.integers.proofs.Linear.{linear}
use Rattle.integers.proofs.Places.{one_more}
use Rattle.integers.proofs.Sums.{⊕_assoc, ⊕_zero_comm}
use Rattle.words.specs.Small.{Near}
use Rattle.models.specs.Model.{num, size, past_terms}
use Rattle.arguments.proofs.Size.{size-le, num-size}
use Rattle.rules.specs.Parts.{extreme, L, U}
use Rattle.extremes.proofs.Size.{pick-size, product-size}
use Rattle.linearsums.specs.Sum.{no_sum, of_terms, of_two}
use Rattle.linearsums.specs.Places.{form_before, sum_size, sum_number, sum_variable, sum_constant, sum_terms, sum_up_to, sum_bounds, with_term}

-- ---- the numbers of a sum
pub number-near : (ws : List ℕ) (a k : ℕ) → Near (sum_number ws a k)
unfolding sum_number
number-near ws a k = go (eqb (form_before ws a) of_two) (eqb k 0)
  where
    go : (s t : Bool) → Near ((+1 if t else -1) if s else num ws (a + 1 + k))
    go true true = omega arith
    go true false = omega arith
    go false t = num-size ws (a + 1 + k)

pub constant-near : (ws : List ℕ) (a : ℕ) → Near (sum_constant ws a)
unfolding sum_constant
constant-near ws a = go (eqb (form_before ws a) of_terms)
  where
    go : (s : Bool) → Near (num ws (past_terms ws a) if s else +0)
    go true = num-size ws (past_terms ws a)
    go false = omega arith

pub few-terms : (ws : List ℕ) (a : ℕ) → sum_size ws a ≤ 32
unfolding sum_size
few-terms ws a = go (eqb (form_before ws a) no_sum) (eqb (form_before ws a) of_two)
  where
    go : (s t : Bool) → (0 if s else 2 if t else size ws a) ≤ 32
    go true t = omega arith
    go false true = omega arith
    go false false = size-le ws a

-- ---- one term more
extreme-more : (pick : ℤ → ℤ → ℤ) (β : ℕ → Bounds) (f : ℕ → Term ℕ) (k : ℕ) →
    extreme pick β (list_of f (k + 1)) ≡ extreme pick β (list_of f k) ⊕ pick ((f k).coefficient ⊗ (β (f k).variable).lower) ((f k).coefficient ⊗ (β (f k).variable).upper)
unfolding extreme
extreme-more pick β f k = rw add-one (one_more (extreme pick β) ◌⊕◌ (λ t. pick (t.coefficient ⊗ (β t.variable).lower) (t.coefficient ⊗ (β t.variable).upper)) (λ x xs. refl) ⊕_assoc ⊕_zero_comm f k)

swap : (x c t : ℤ) → x ⊖ c ⊕ t ≡ x ⊕ t ⊖ c
swap = simp linear (omega arith)

module _ (ws : List ℕ) (a : ℕ) (β : ℕ → Bounds) where
  pub upto-none : (+0 ⊖ sum_constant ws a to +0 ⊖ sum_constant ws a) ≡ sum_up_to ws a β 0
  unfolding sum_up_to L U sum_terms list_of extreme
  upto-none = refl

  pub upto-more : (k : ℕ) → with_term (sum_up_to ws a β k) (sum_number ws a k) (β (sum_variable ws a k)) ≡ sum_up_to ws a β (suc k)
  unfolding sum_up_to L U sum_terms with_term
  upto-more k = ap₂ (λ l u. l to u) (more min_z) (more max_z)
    where
      more : (pick : ℤ → ℤ → ℤ) → extreme pick β (list_of (λ j. sum_number ws a j · sum_variable ws a j) k) ⊖ sum_constant ws a ⊕ pick (sum_number ws a k ⊗ (β (sum_variable ws a k)).lower) (sum_number ws a k ⊗ (β (sum_variable ws a k)).upper)
          ≡ extreme pick β (list_of (λ j. sum_number ws a j · sum_variable ws a j) (suc k)) ⊖ sum_constant ws a
      more pick = swap _ _ _ ∙ ap (λ z. z ⊖ sum_constant ws a) (sym (rw add-one at (extreme-more pick β (λ j. sum_number ws a j · sum_variable ws a j) k)))

-- ---- they fit
module _ (β : ℕ → Bounds) (near : (v : ℕ) → Near (β v).lower × Near (β v).upper) where
  prefix_size : (up : Bool) (f : ℕ → Term ℕ) (k : ℕ) → ((j : ℕ) → Near (f j).coefficient) → nat_abs (extreme (max_z if up else min_z) β (list_of f k)) ≤ k * 18014398509481984
  unfolding list_of extreme
  prefix_size up f zero h = omega arith
  prefix_size up f (suc k) h =
      let a = (f 0).coefficient in
      let B = β (f 0).variable in
      let t = pick-size up (a ⊗ B.lower) (a ⊗ B.upper) (product-size a B.lower (h 0) (near (f 0).variable).0) (product-size a B.upper (h 0) (near (f 0).variable).1) in
      let r = prefix_size up (λ j. f (suc j)) k (λ j. h (suc j)) in
      omega (arith, plus-size ((max_z if up else min_z) (a ⊗ B.lower) (a ⊗ B.upper)) (extreme (max_z if up else min_z) β (list_of (λ j. f (suc j)) k)))

  pub upto-fits : (ws : List ℕ) (a k : ℕ) → k ≤ 32 → (nat_abs (sum_up_to ws a β k).lower ≤ 1152921504606846976) × (nat_abs (sum_up_to ws a β k).upper ≤ 1152921504606846976)
  unfolding sum_up_to L U sum_terms
  upto-fits ws a k h =
      let f : ℕ → Term ℕ = λ j. sum_number ws a j · sum_variable ws a j in
      let c = constant-near ws a in
      let l = prefix_size false f k (number-near ws a) in
      let u = prefix_size true f k (number-near ws a) in
      (omega (arith, minus-size (extreme min_z β (list_of f k)) (sum_constant ws a)), omega (arith, minus-size (extreme max_z β (list_of f k)) (sum_constant ws a)))

-- the whole sum is that of its first `sum_size` terms
pub upto_all : (ws : List ℕ) (a : ℕ) (β : ℕ → Bounds) → sum_up_to ws a β (sum_size ws a) ≡ sum_bounds ws a β
unfolding sum_bounds
upto_all ws a β = refl
