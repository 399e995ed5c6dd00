-- Numbers cut to −S..S. A product of cut numbers, cut again, is the product cut: what has left −S..S does not come back, and 64 bits suffice
-- for products of many factors. For the code of int_pow.
use Rattle.std.proofs.Common.{◌≡◌, sym, ap, ◌∙◌, ◌↔◌, ◌≤◌, arith, ℤ, nat_abs}
use Rattle.integers.specs.Number.{◌⊗◌, neg, min_z, max_z, cut, ◌≟◌, +0, +1}
use Rattle.integers.proofs.Linear.{◌⊑◌, ◌⊏◌, rep, linear, from₃, dec⊑}
use Rattle.integers.proofs.Product.{product-order, ⊗_comm}
use Rattle.integers.proofs.Sums.{times_zero}
use Rattle.integers.proofs.Tests.{says-equal, same_test}

-- ---- one number

pub cut_inside : (S a : ℤ) → neg S ⊑ a → a ⊑ S → cut S a ≡ a
unfolding cut
cut_inside = simp linear (omega arith)

cut_high : (S a : ℤ) → +1 ⊑ S → S ⊑ a → cut S a ≡ S
unfolding cut
cut_high = simp linear (omega arith)

cut_low : (S a : ℤ) → +1 ⊑ S → a ⊑ neg S → cut S a ≡ neg S
unfolding cut
cut_low = simp linear (omega arith)

cut-neg : (S a : ℤ) → +1 ⊑ S → cut S (neg a) ≡ neg (cut S a)
unfolding cut
cut-neg = simp linear (omega arith)

pub cut-size : (S a : ℤ) → +1 ⊑ S → nat_abs (cut S a) ≤ nat_abs S
unfolding cut
cut-size = simp linear (omega arith)

-- a number inside −S..S is equal to one where it is equal to that cut
pub cut-equal : (S a b : ℤ) → neg S ⊏ b → b ⊏ S → (cut S a ≟ b) ≡ (a ≟ b)
unfolding cut
cut-equal S a b h k = same_test (says-equal (cut S a) b) (says-equal a b) (core S a b h k)
  where
    core : (S a b : ℤ) → neg S ⊏ b → b ⊏ S → (cut S a ≡ b) ↔ (a ≡ b)
    core = simp linear (omega arith)

-- ---- products

negated : (a b : ℤ) → a ⊗ neg b ≡ neg (a ⊗ b)
negated = simp linear (omega arith)

twice-negated : (a : ℤ) → neg (neg a) ≡ a
twice-negated = simp linear (omega arith)

module _ (S : ℤ) (h : +1 ⊑ S) where
  -- a number past S times one from 1 on
  past-product : (a b : ℤ) → S ⊑ a → +1 ⊑ b → S ⊑ a ⊗ b
  past-product a b i j =
      from₃ (product-order S a +1 b i j) (product-order +0 S +1 b (not_negative S h) j) i (rw (rep a, rep b, rep S) (simp linear (omega arith)))
    where
      not_negative : (S : ℤ) → +1 ⊑ S → +0 ⊑ S
      not_negative = simp linear (omega arith)

  -- cutting a number past S changes no cut product
  past-cut : (a b : ℤ) → S ⊑ a → +0 ⊑ b → cut S (S ⊗ b) ≡ cut S (a ⊗ b)
  past-cut a b i j = go (dec⊑ +1 b)
    where
      itself : (S : ℤ) → S ⊑ S
      itself = simp linear (omega arith)

      is_zero : (b : ℤ) → +0 ⊑ b → ¬ (+1 ⊑ b) → b ≡ +0
      is_zero = simp linear (omega arith)

      go : Dec (+1 ⊑ b) → cut S (S ⊗ b) ≡ cut S (a ⊗ b)
      go (yes k) = cut_high S (S ⊗ b) h (past-product S b (itself S) k) ∙ sym (cut_high S (a ⊗ b) h (past-product a b i k))
      go (no n) = let e = is_zero b j n in ap (cut S) (ap (λ z. S ⊗ z) e ∙ times_zero S ∙ sym (ap (λ z. a ⊗ z) e ∙ times_zero a))

  -- the cut product with the opposite of b
  flipped : (a b : ℤ) → cut S (a ⊗ b) ≡ neg (cut S (a ⊗ neg b))
  flipped a b = ap (cut S) (ap (λ z. a ⊗ z) (sym (twice-negated b)) ∙ negated a (neg b)) ∙ cut-neg S (a ⊗ neg b) h

  past-any : (a b : ℤ) → S ⊑ a → cut S (S ⊗ b) ≡ cut S (a ⊗ b)
  past-any a b i = go (dec⊑ +0 b)
    where
      opposite : (b : ℤ) → ¬ (+0 ⊑ b) → +0 ⊑ neg b
      opposite = simp linear (omega arith)

      go : Dec (+0 ⊑ b) → cut S (S ⊗ b) ≡ cut S (a ⊗ b)
      go (yes k) = past-cut a b i k
      go (no n) = flipped S b ∙ ap neg (past-cut a (neg b) i (opposite b n)) ∙ sym (flipped a b)

  -- one factor cut
  one-cut : (a b : ℤ) → cut S (cut S a ⊗ b) ≡ cut S (a ⊗ b)
  one-cut a b = go (dec⊑ S a) (dec⊑ a (neg S))
    where
      between : (S a : ℤ) → ¬ (S ⊑ a) → ¬ (a ⊑ neg S) → (neg S ⊑ a) × (a ⊑ S)
      between = simp linear (omega arith)

      opposite : (S a : ℤ) → a ⊑ neg S → S ⊑ neg a
      opposite = simp linear (omega arith)

      swapped : (a : ℤ) → cut S (neg a ⊗ b) ≡ neg (cut S (a ⊗ b))
      swapped a = ap (cut S) (⊗_comm (neg a) b ∙ negated b a ∙ ap neg (⊗_comm b a)) ∙ cut-neg S (a ⊗ b) h

      go : Dec (S ⊑ a) → Dec (a ⊑ neg S) → cut S (cut S a ⊗ b) ≡ cut S (a ⊗ b)
      go (yes i) m = ap (λ z. cut S (z ⊗ b)) (cut_high S a h i) ∙ past-any a b i
      go (no n) (yes i) =
          ap (λ z. cut S (z ⊗ b)) (cut_low S a h i) ∙ swapped S ∙ ap neg (past-any (neg a) b (opposite S a i)) ∙ sym (swapped (neg a)) ∙ ap (λ z. cut S (z ⊗ b)) (twice-negated a)
      go (no n) (no m) = let k = between S a n m in ap (λ z. cut S (z ⊗ b)) (cut_inside S a k.0 k.1)

  pub cut_product : (a b : ℤ) → cut S (cut S a ⊗ cut S b) ≡ cut S (a ⊗ b)
  cut_product a b = one-cut a (cut S b) ∙ ap (cut S) (⊗_comm a (cut S b)) ∙ one-cut b a ∙ ap (cut S) (⊗_comm b a)

  -- the lesser and the larger of two
  rising : (S a b : ℤ) → +1 ⊑ S → a ⊑ b → cut S a ⊑ cut S b
  unfolding cut
  rising = simp linear (omega arith)

  least_first : (a b : ℤ) → a ⊑ b → min_z a b ≡ a
  least_first = simp linear (omega arith)

  least-second : (a b : ℤ) → b ⊑ a → min_z a b ≡ b
  least-second = simp linear (omega arith)

  largest-first : (a b : ℤ) → b ⊑ a → max_z a b ≡ a
  largest-first = simp linear (omega arith)

  largest-second : (a b : ℤ) → a ⊑ b → max_z a b ≡ b
  largest-second = simp linear (omega arith)

  other_way : (a b : ℤ) → ¬ (a ⊑ b) → b ⊑ a
  other_way = simp linear (omega arith)

  pub cut-min : (a b : ℤ) → cut S (min_z a b) ≡ min_z (cut S a) (cut S b)
  cut-min a b = go (dec⊑ a b)
    where
      go : Dec (a ⊑ b) → cut S (min_z a b) ≡ min_z (cut S a) (cut S b)
      go (yes i) = ap (cut S) (least_first a b i) ∙ sym (least_first _ _ (rising S a b h i))
      go (no n) = let i = other_way a b n in ap (cut S) (least-second a b i) ∙ sym (least-second _ _ (rising S b a h i))

  pub cut-max : (a b : ℤ) → cut S (max_z a b) ≡ max_z (cut S a) (cut S b)
  cut-max a b = go (dec⊑ a b)
    where
      go : Dec (a ⊑ b) → cut S (max_z a b) ≡ max_z (cut S a) (cut S b)
      go (yes i) = ap (cut S) (largest-second a b i) ∙ sym (largest-second _ _ (rising S a b h i))
      go (no n) = let i = other_way a b n in ap (cut S) (largest-first a b i) ∙ sym (largest-first _ _ (rising S b a h i))
