-- Signed numbers of 64 bits: what fits, and how large sums and products are.
use Rattle.std.proofs.Common.{◌≡◌, refl, ap, sym, ◌∙◌, Bool, true, false, not, cond, ℕ, zero, suc, ◌+◌, ◌*◌, ◌-◌, ◌/◌, ◌%◌, ◌<◌, ◌≤◌, arith, mul-le-mul_left, mul-le-mul_right, le_trans, div-le_self, T, ltb, ltb→lt, eqb, ℤ, pos, negsuc, neg_ℤ, ◌+ℤ◌, ◌*ℤ◌, nat_abs, w32, w64, to_z, of_z, SFits, to_z-of_z, eqb-true}
use native.Mathlib.Nat.{mod-le}
use lib.IntN.{sub_ℕ}
use lib.Signed.{mag, quot_z, rem_z}
use borrow.Author.Tests.{eqb-false}
use Rattle.integers.specs.Number.{◌⊕◌, ◌⊖◌, ◌⊗◌, neg, ◌≟◌}
use Rattle.integers.proofs.Tests.{says-equal, false-true}

-- `nat_abs` is the absolute value; `mag` is it, or one less for a negative number
pub mag_le : (z : ℤ) → mag z ≤ nat_abs z
mag_le (pos n) = omega arith
mag_le (negsuc n) = omega arith

pub fits64 : (z : ℤ) → nat_abs z < 9223372036854775808 → SFits w64 z
fits64 z h = record { sfits = omega (arith, mag_le z) }

pub fits32 : (z : ℤ) → nat_abs z < 2147483648 → SFits w32 z
fits32 z h = record { sfits = omega (arith, mag_le z) }

-- what is read back of a number that a call gave: `back c.f.result c.f.type_inv`
pub back : (z : ℤ) → mag z < 9223372036854775808 → to_z w64 (of_z w64 z) ≡ z
back z h = to_z-of_z {w = w64} (record { sfits = h })

by-test : (c : Bool) (x y : ℤ) (P : ℤ → Type 0) → (T c → P x) → P y → P (cond c x y)
by-test true x y P f g = f tt
by-test false x y P f g = g

sub-abs : (a b : ℕ) → nat_abs (sub_ℕ a b) ≤ a + b
sub-abs a b = by-test (ltb a b) (negsuc (b - suc a)) (pos (a - b)) (λ (z : ℤ). nat_abs z ≤ a + b) (λ t. omega (arith, ltb→lt a b t)) (omega arith)

neg-abs : (z : ℤ) → nat_abs (neg_ℤ z) ≡ nat_abs z
neg-abs (pos zero) = refl
neg-abs (pos (suc n)) = refl
neg-abs (negsuc n) = refl

add-abs : (a b : ℤ) → nat_abs (a +ℤ b) ≤ nat_abs a + nat_abs b
add-abs (pos a) (pos b) = omega arith
add-abs (pos a) (negsuc b) = sub-abs a (suc b)
add-abs (negsuc a) (pos b) = omega (arith, sub-abs b (suc a))
add-abs (negsuc a) (negsuc b) = omega arith

mul-abs : (a b : ℤ) → nat_abs (a *ℤ b) ≡ nat_abs a * nat_abs b
mul-abs (pos a) (pos b) = refl
mul-abs (pos a) (negsuc b) = neg-abs (pos (a * suc b))
mul-abs (negsuc a) (pos b) = neg-abs (pos (suc a * b))
mul-abs (negsuc a) (negsuc b) = refl

pub neg-size : (a : ℤ) → nat_abs (neg a) ≡ nat_abs a
unfolding neg
neg-size a = neg-abs a

pub plus-size : (a b : ℤ) → nat_abs (a ⊕ b) ≤ nat_abs a + nat_abs b
unfolding ◌⊕◌
plus-size a b = add-abs a b

pub minus-size : (a b : ℤ) → nat_abs (a ⊖ b) ≤ nat_abs a + nat_abs b
unfolding ◌⊖◌
minus-size a b = omega (arith, add-abs a (neg_ℤ b), neg-abs b)

pub times-size : (a b : ℤ) → nat_abs (a ⊗ b) ≡ nat_abs a * nat_abs b
unfolding ◌⊗◌
times-size a b = mul-abs a b

-- a quotient is no larger than the dividend, and a remainder neither
pub quotient-size : (a d : ℤ) → nat_abs (quot_z a d) ≤ nat_abs a
quotient-size (pos a) (pos d) = div-le_self a d
quotient-size (pos a) (negsuc d) = omega (arith, neg-abs (pos (a / suc d)), div-le_self a (suc d))
quotient-size (negsuc a) (pos d) = omega (arith, neg-abs (pos (suc a / d)), div-le_self (suc a) d)
quotient-size (negsuc a) (negsuc d) = div-le_self (suc a) (suc d)

pub remainder-size : (a d : ℤ) → nat_abs (rem_z a d) ≤ nat_abs a
remainder-size (pos a) d = mod-le a (nat_abs d)
remainder-size (negsuc a) d = omega (arith, neg-abs (pos (suc a % nat_abs d)), mod-le (suc a) (nat_abs d))

-- a number that is not 0 has an absolute value above 0, and bits that are not all 0
pub above_zero : (z : ℤ) → not (z ≟ pos 0) ≡ true → 0 < nat_abs z
above_zero (pos zero) e = absurd (false-true (sym (ap not ((says-equal (pos zero) (pos 0)).1 refl)) ∙ e))
above_zero (pos (suc n)) e = omega arith
above_zero (negsuc n) e = omega arith

pub bits_above_zero : (z : ℤ) → SFits w64 z → 0 < nat_abs z → 0 < of_z w64 z
bits_above_zero (pos n) f h = h
bits_above_zero (negsuc n) f h = omega (arith, f.sfits)

-- a product is at most the product of the limits
pub mul-le : {a b m n : ℕ} → a ≤ m → b ≤ n → a * b ≤ m * n
mul-le {a} {b} {m} {n} h k = le_trans (mul-le-mul_right b h) (mul-le-mul_left m k)

-- two numbers are equal where their bits are
pub equal_bits : (a b : ℤ) → SFits w64 a → SFits w64 b → eqb (of_z w64 a) (of_z w64 b) ≡ (a ≟ b)
equal_bits a b h k = go (eqb (of_z w64 a) (of_z w64 b)) (a ≟ b) refl refl
  where
    go : (x y : Bool) → eqb (of_z w64 a) (of_z w64 b) ≡ x → (a ≟ b) ≡ y → eqb (of_z w64 a) (of_z w64 b) ≡ (a ≟ b)
    go true y e f = e ∙ sym ((says-equal a b).1 (sym (to_z-of_z h) ∙ ap (to_z w64) (eqb-true (of_z w64 a) (of_z w64 b) e) ∙ to_z-of_z k))
    go false true e f = absurd (eqb-false (of_z w64 a) (of_z w64 b) e (ap (of_z w64) ((says-equal a b).0 f)))
    go false false e f = e ∙ sym f
