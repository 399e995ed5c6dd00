-- Codes 6 to 9 and 29, sum, product, absolute value, maximum and minimum; first the auxiliaries b and z of 8, 12 to 14, 31 and 32, and the bounds of a
-- product.
use Rattle.std.proofs.Common.{◌≡◌, refl, sym, ap, ◌∙◌, ◌⊎◌, inl, inr, Bool, List, [], ◌∷◌, ◌++◌, ℕ, arith, ℤ}
use lib.Signed.{lt_z}
use Rattle.integers.specs.Number.{◌⊕◌, ◌⊖◌, ◌⊗◌, neg, min_z, max_z, abs_z, +0, +1}
use Rattle.integers.specs.Bounds.{bit}
use Rattle.integers.specs.Terms.{Valuation, value}
use Rattle.integers.specs.declared.Bounds.{Bounds}
use Rattle.integers.proofs.Linear.{◌⊑◌, ◌⊏◌, rep, linear, from₁, from₂, from₃}
use Rattle.integers.proofs.Bits.{to-bit, bit_case}
use Rattle.integers.proofs.Product.{between, ⊗_comm}
use Rattle.integers.proofs.Tests.{Says, In, says-lt, says-equal, says-not}
use Rattle.integers.proofs.Sums.{zero-times, one-times}
use Rattle.models.specs.Builtin.{int_plus, int_times, int_abs, int_max, int_min}
use Rattle.models.specs.Meaning.{meaning}
use Rattle.models.proofs.Arguments.{integer_arguments}
use Rattle.rules.specs.Block.{Ref, source, aux}
use Rattle.rules.specs.Parts.{Z, end_products, ◌─◌≤0}
use Rattle.rules.specs.Rule.{rule, only_negative, where_one, where_zero, absolute, touching}
use Rattle.rules.specs.Pick.{pick, bit_of, sign_pick}
use Rattle.sharing.proofs.Good.{Good, Keeps, Are, Sat, see}
use Rattle.sharing.proofs.Basics.{Represents, Correct, Exact, agree, says_as, equal-row, by-test, is_one, is_zero, Decides, represents-one_bit, not-not}

-- ---- 8, 12 to 14, 31, 32: b is 0 or 1, z := b×x

-- a product with 0 or 1 is 0 or the other factor
pub bit-product : (b x z : ℤ) → In bit b → z ≡ b ⊗ x → (z ≡ +0) ⊎ (z ≡ x)
bit-product b x z h e = bit_case (to-bit b h.0 h.1) (λ p. inl (e ∙ rw p (zero-times x))) (λ p. inr (e ∙ rw p (one-times x)))

-- the z that is picked is x where x is negative, else 0
pub sign-product : (x : ℤ) → bit_of (lt_z x +0) ⊗ x ≡ min_z +0 x
sign-product x = by-test (says-lt x +0) (λ b. b ⊗ x ≡ min_z +0 x) (negative x) (other x)
  where
    negative : (x : ℤ) → x ⊏ +0 → +1 ⊗ x ≡ min_z +0 x
    negative = simp linear (omega arith)

    other : (x : ℤ) → ¬ (x ⊏ +0) → +0 ⊗ x ≡ min_z +0 x
    other = simp linear (omega arith)

-- what is picked for b and z keeps 0..1 and Z(x)
pub sign_kept : (B : Bounds) (x : ℤ) → In B x → (rest : List ℤ) → Keeps (bit ∷ Z B ∷ []) (value (sign_pick x ++ rest))
unfolding Z sign_pick value
sign_kept B x h rest = (
  by-test (says-lt x +0) (λ b. In bit b) (λ n. simp linear (omega arith)) (λ n. simp linear (omega arith)),
  (from₁ h (rw (sign-product x, rep x, rep B.lower, rep B.upper) (simp linear (omega arith))), tt),
)

-- the row of the sign bit: the bit that is picked satisfies it, and a bit that does is 1 only for a negative x
module _ (ρ : Ref → ℤ) (x b : Ref) (u : ℤ) where
  pub sign-row : ρ x ⊑ u → ρ b ≡ bit_of (lt_z (ρ x) +0) → Sat ρ (only_negative x b u)
  unfolding only_negative
  sign-row h e = rw e (by-test (says-lt (ρ x) +0) (λ c. +1 ⊗ ρ x ⊕ ((u ⊕ +1) ⊗ c ⊕ +0) ⊕ neg u ⊑ +0) (negative (ρ x) u) (λ n. other (ρ x) u h))
    where
      negative : (x u : ℤ) → x ⊏ +0 → +1 ⊗ x ⊕ ((u ⊕ +1) ⊗ +1 ⊕ +0) ⊕ neg u ⊑ +0
      negative = simp linear (omega arith)

      other : (x u : ℤ) → x ⊑ u → +1 ⊗ x ⊕ ((u ⊕ +1) ⊗ +0 ⊕ +0) ⊕ neg u ⊑ +0
      other = simp linear (omega arith)

  pub sign-negative : Sat ρ (only_negative x b u) → ρ b ≡ +1 → ρ x ⊏ +0
  unfolding only_negative
  sign-negative s e = negative (ρ x) u (rw e at s)
    where
      negative : (x u : ℤ) → +1 ⊗ x ⊕ ((u ⊕ +1) ⊗ +1 ⊕ +0) ⊕ neg u ⊑ +0 → x ⊏ +0
      negative = simp linear (omega arith)

-- so b and z are those that are picked, where the other rows do not leave z at 0 for a negative x
pub sign-are : (x : ℤ) (α : Valuation) → In bit (α 0) → α 1 ≡ α 0 ⊗ x → (α 0 ≡ +1 → x ⊏ +0) → (α 1 ≡ +0 → ¬ (x ⊏ +0)) → Are (sign_pick x) α
unfolding sign_pick
sign-are x α h e f g = (picked, (e ∙ ap (λ b. b ⊗ x) picked, tt))
  where
    picked : α 0 ≡ bit_of (lt_z x +0)
    picked =
        bit_case (to-bit (α 0) h.0 h.1) (λ p. p ∙ is_zero (says-lt x +0) (g (e ∙ ap (λ b. b ⊗ x) p ∙ zero-times x)))
        (λ p. p ∙ is_one (says-lt x +0) (f p))

-- ---- 7: a product stays between the end products of its factors' bounds

least_of_four : (w u v p q r s : ℤ) → min_z u v ⊑ w → min_z p q ⊑ u → min_z r s ⊑ v → min_z (min_z p r) (min_z q s) ⊑ w
least_of_four = simp linear (omega arith)

largest_of_four : (w u v p q r s : ℤ) → w ⊑ max_z u v → u ⊑ max_z p q → v ⊑ max_z r s → w ⊑ max_z (max_z p r) (max_z q s)
largest_of_four = simp linear (omega arith)

pub product-kept : (A B : Bounds) (a b : ℤ) → In A a → In B b → In (end_products A B) (a ⊗ b)
unfolding end_products
product-kept A B a b h k =
    let inner = between a b B.lower B.upper k.0 k.1 in
    let low = first B.lower in
    let high = first B.upper in
    (least_of_four _ _ _ _ _ _ _ inner.0 low.0 high.0, largest_of_four _ _ _ _ _ _ _ inner.1 low.1 high.1)
  where
    -- a × y for an end y of B
    first : (y : ℤ) → (min_z (A.lower ⊗ y) (A.upper ⊗ y) ⊑ a ⊗ y) × (a ⊗ y ⊑ max_z (A.lower ⊗ y) (A.upper ⊗ y))
    first y = rw (⊗_comm A.lower y, ⊗_comm A.upper y, ⊗_comm a y) (between y a A.lower A.upper h.0 h.1)

module _ (β : ℕ → Bounds) (σ : Valuation) where
  -- ---- 6 int_plus

  pub int_plus_exact : (a b c : ℕ) → Exact β σ (int_plus a b c)
  unfolding rule meaning
  int_plus_exact a b c α f =
      agree (says-equal (σ a ⊕ σ b) (σ c)) (rw (rep (σ a), rep (σ b), rep (σ c)) (simp linear (omega arith)))

  -- ---- 7 int_times

  pub int_times_correct : (a b c : ℕ) → Correct β σ (int_times a b c)
  unfolding rule meaning integer_arguments pick value
  int_times_correct a b c = record {
    sound = λ α f g. (says-equal (σ a ⊗ σ b) (σ c)).1 (rw g.1.0 at ((equal-row (see σ α) (aux 0) (source c)).0 g.1.1.0));
    complete = λ f m rest. (
      (product-kept (β a) (β b) (σ a) (σ b) f.kept.0 f.kept.1.0, tt),
      (refl, ((equal-row _ (aux 0) (source c)).1 ((says-equal (σ a ⊗ σ b) (σ c)).0 m), tt)),
    );
    filled = refl;
    determined = λ α f g. (g.1.0, tt);
  }

  -- ---- 8 int_abs

  pub int_abs_correct : (x y : ℕ) → Correct β σ (int_abs x y)
  unfolding rule absolute meaning integer_arguments pick sign_pick value
  int_abs_correct x y = record {
    sound = λ α f g.
        (says-equal (abs_z (σ x)) (σ y)).1
        (from₃ (bit-product (α 0) (σ x) (α 1) g.0.0 g.1.0) g.1.1.0 g.1.1.1.0
        (rw (rep (σ x), rep (σ y), rep (α 1)) (simp linear (omega arith))));
    complete = λ f m rest.
        let e = (says-equal (abs_z (σ x)) (σ y)).0 m in (
          sign_kept (β x) (σ x) f.kept.0 rest,
          (
            refl,
            (
              from₁ e (rw (sign-product (σ x), rep (σ x), rep (σ y)) (simp linear (omega arith))),
              (
                from₁ e (rw (rep (σ x), rep (σ y)) (simp linear (omega arith))),
                (sign-row (see σ (value (sign_pick (σ x) ++ rest))) (source x) (aux 0) (β x).upper f.kept.0.1 refl, tt),
              ),
            ),
          ),
        );
    filled = refl;
    determined = λ α f g.
        sign-are (σ x) α g.0.0 g.1.0 (sign-negative (see σ α) (source x) (aux 0) (β x).upper g.1.1.1.1.0)
        (λ z. from₂ (rw z at g.1.1.0) g.1.1.1.0 (rw (rep (σ x), rep (σ y)) (simp linear (omega arith))));
  }

  -- ---- 9 int_max, 29 int_min: the least of y − x and v − u is 0; r is 0 where x = y

  touching-rows : (x y u v : ℕ) → In (β x) (σ x) × In (β y) (σ y) × In (β u) (σ u) × In (β v) (σ v) →
      Decides (λ r. Good (touching β x y u v) σ (value (r ∷ []))) (min_z (σ y ⊖ σ x) (σ v ⊖ σ u) ≡ +0) (¬ (σ x ≡ σ y))
  unfolding touching where_one where_zero ◌─◌≤0 value
  touching-rows x y u v =
      rw (rep (σ x), rep (σ y), rep (σ u), rep (σ v), rep (β x).lower, rep (β x).upper, rep (β y).lower, rep (β y).upper, rep (β u).lower, rep (β u).upper, rep (β v).lower, rep (β v).upper)
      (simp (linear, not-not) (omega arith))

  -- t is the test of the builtin, s the test that r picks
  touching_represents : {F : Type 0} (x y u v : ℕ) → (F → In (β x) (σ x) × In (β y) (σ y) × In (β u) (σ u) × In (β v) (σ v)) → {s t : Bool} →
      Says t (min_z (σ y ⊖ σ x) (σ v ⊖ σ u) ≡ +0) → Says s (¬ (σ x ≡ σ y)) → Represents F (touching β x y u v) σ (bit_of s ∷ []) t
  unfolding touching where_one where_zero ◌─◌≤0 value
  touching_represents x y u v h m n = represents-one_bit (λ f. touching-rows x y u v (h f)) m n (λ α g. g) (λ r rest g. g)

  pub int_max_correct : (a b c : ℕ) → Correct β σ (int_max a b c)
  unfolding rule meaning integer_arguments pick
  int_max_correct a b c =
      touching_represents a c b c (λ f. (f.kept.0, f.kept.1.1.0, f.kept.1.0, f.kept.1.1.0))
      (says_as (says-equal (max_z (σ a) (σ b)) (σ c)) (rw (rep (σ a), rep (σ b), rep (σ c)) (simp linear (omega arith)))) (says-not (says-equal (σ a) (σ c)))

  pub int_min_correct : (a b c : ℕ) → Correct β σ (int_min a b c)
  unfolding rule meaning integer_arguments pick
  int_min_correct a b c =
      touching_represents c a c b (λ f. (f.kept.1.1.0, f.kept.0, f.kept.1.1.0, f.kept.1.0))
      (says_as (says-equal (min_z (σ a) (σ b)) (σ c)) (rw (rep (σ a), rep (σ b), rep (σ c)) (simp linear (omega arith))))
      (says-not (says_as (says-equal (σ a) (σ c)) (sym, sym)))
