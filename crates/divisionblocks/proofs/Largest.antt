-- M by fewer numbers; how large it is, and the bounds of 38's quotient.
use Rattle.std.proofs.Common.{◌≡◌, refl, sym, ap, ◌∙◌, true, ◌<◌, ◌≤◌, arith, ℤ, pos, negsuc, nat_abs}
use Rattle.integers.specs.Number.{◌⊕◌, ◌⊖◌, neg, max_z, abs_z, +1}
use Rattle.integers.specs.declared.Bounds.{Bounds}
use Rattle.integers.proofs.Linear.{linear}
use Rattle.integers.proofs.Fits.{plus-size}
use Rattle.words.specs.Small.{Near}
use Rattle.extremes.proofs.Size.{pick-size}
use Rattle.rules.specs.Division.{M}

-- the largest of four sums, of one of x and y, one of u and v, and 1
sums : (x y u v : ℤ) → max_z (max_z (y ⊕ u ⊕ +1) (x ⊕ v ⊕ +1)) (max_z (y ⊕ v ⊕ +1) (x ⊕ u ⊕ +1)) ≡ max_z x y ⊕ max_z u v ⊕ +1
sums = simp linear (omega arith)

-- M is the larger of p−n and n−p, and |d| and 1 more where that is more
pub M-is : (N D P : Bounds) → let a = max_z (P.upper ⊖ N.lower) (N.upper ⊖ P.lower) in max_z a (a ⊕ max_z (neg D.lower) D.upper ⊕ +1) ≡ M N D P
unfolding M
M-is N D P =
    ap (max_z (max_z (P.upper ⊖ N.lower) (N.upper ⊖ P.lower)))
    (sym (sums (P.upper ⊖ N.lower) (N.upper ⊖ P.lower) (neg D.lower) D.upper) ∙ rw (less N.upper P.lower D.lower, less' P.upper N.lower D.lower, more N.upper P.lower D.upper))
  where
    less : (a b c : ℤ) → a ⊖ b ⊕ neg c ⊕ +1 ≡ a ⊖ c ⊖ b ⊕ +1
    less = simp linear (omega arith)

    less' : (a b c : ℤ) → a ⊖ b ⊕ neg c ⊕ +1 ≡ a ⊖ b ⊖ c ⊕ +1
    less' = simp linear (omega arith)

    more : (a b c : ℤ) → a ⊖ b ⊕ c ⊕ +1 ≡ a ⊕ c ⊖ b ⊕ +1
    more = simp linear (omega arith)

-- it is small
pub M-size : (a w : ℤ) → nat_abs a ≤ 18014398643699712 → Near w → nat_abs (max_z a (a ⊕ w ⊕ +1)) < 36028797018963968
M-size a w h k = omega (arith, pick-size true a (a ⊕ w ⊕ +1) {m = 18014398777917441} (omega arith) (omega (arith, plus-size (a ⊕ w) +1, plus-size a w)))

-- 38: the larger of two absolute values
pub larger_near : (l u : ℤ) → Near l → Near u → Near (max_z (abs_z l) (abs_z u))
unfolding abs_z
larger_near l u h k = pick-size true (abs_z l) (abs_z u) (omega (arith, abs-size l)) (omega (arith, abs-size u))
  where
    abs-size : (x : ℤ) → nat_abs (abs_z x) ≡ nat_abs x
    abs-size (pos n) = refl
    abs-size (negsuc n) = refl
