-- A product between the products of the ends of bounds.
use Rattle.std.proofs.Common.{◌≡◌, ℕ, ◌+◌, ◌*◌, ◌-◌, ◌≤◌, arith, ℤ, pos}
use lib.IntN.{*ℤ_comm}
use Rattle.integers.specs.Number.{◌⊕◌, ◌⊗◌, min_z, max_z}
use Rattle.integers.proofs.Linear.{◌⊑◌, pos_part, neg_part, rep, linear, le_read, from₁, dec⊑}

-- (b − a)(d − c) is not negative
prodℕ : (p q r s : ℕ) → p ≤ q → r ≤ s → p * s + q * r ≤ p * r + q * s
prodℕ p q r s h k = let e : p + (q - p) ≡ q = omega arith in let f : r + (s - r) ≡ s = omega arith in rw (← e, ← f) (omega arith)

pub product-order : (a b c d : ℤ) → a ⊑ b → c ⊑ d → a ⊗ d ⊕ b ⊗ c ⊑ a ⊗ c ⊕ b ⊗ d
product-order a b c d h k =
    rw (rep a, rep b, rep c, rep d)
    (simp linear (omega (arith, prodℕ (pos_part a + neg_part b) (pos_part b + neg_part a) (pos_part c + neg_part d) (pos_part d + neg_part c) (le_read h) (le_read k))))

pub ⊗_comm : (a b : ℤ) → a ⊗ b ≡ b ⊗ a
unfolding ◌⊗◌
⊗_comm a b = *ℤ_comm a b

rising : (a x y : ℤ) → pos 0 ⊑ a → x ⊑ y → a ⊗ x ⊑ a ⊗ y
rising a x y p h = from₁ (product-order (pos 0) a x y p h) (rw (rep a, rep x, rep y) (simp linear (omega arith)))

falling : (a x y : ℤ) → a ⊑ pos 0 → x ⊑ y → a ⊗ y ⊑ a ⊗ x
falling a x y p h = from₁ (product-order a (pos 0) x y p h) (rw (rep a, rep x, rep y) (simp linear (omega arith)))

-- a × x stays between a × l and a × u
pub between : (a x l u : ℤ) → l ⊑ x → x ⊑ u → (min_z (a ⊗ l) (a ⊗ u) ⊑ a ⊗ x) × (a ⊗ x ⊑ max_z (a ⊗ l) (a ⊗ u))
between a x l u h k = go (dec⊑ (pos 0) a)
  where
    up : (u v w : ℤ) → u ⊑ v → v ⊑ w → (min_z u w ⊑ v) × (v ⊑ max_z u w)
    up = simp linear (omega arith)

    down : (u v w : ℤ) → w ⊑ v → v ⊑ u → (min_z u w ⊑ v) × (v ⊑ max_z u w)
    down = simp linear (omega arith)

    negative : (a : ℤ) → ¬ (pos 0 ⊑ a) → a ⊑ pos 0
    negative = simp linear (omega arith)

    go : Dec (pos 0 ⊑ a) → (min_z (a ⊗ l) (a ⊗ u) ⊑ a ⊗ x) × (a ⊗ x ⊑ max_z (a ⊗ l) (a ⊗ u))
    go (yes p) = up _ _ _ (rising a l x p h) (rising a x u p k)
    go (no p) = down _ _ _ (falling a x u (negative a p) k) (falling a l x (negative a p) h)
