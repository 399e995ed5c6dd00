-- 01, The words of demand 3: "Whole numbers, their sums and their products have no limit of size there."
-- Their sums, differences and products, the lesser and the larger of two, absolute values, whether two are equal.
use Rattle.std.specs.Prelude.{Bool, false, ℕ, eqb, ℤ, pos, negsuc, neg_ℤ, ◌+ℤ◌, ◌-ℤ◌, ◌*ℤ◌, nat_abs}
use Rattle.std.specs.Int.Signed.{le_z}
use Rattle.integers.specs.Choice.{◌if◌else◌}

-- sum, difference, product, opposite
infixl 6 ◌⊕◌ ◌⊖◌
infixl 7 ◌⊗◌
unfoldable pub ◌⊕◌ : ℤ → ℤ → ℤ
a ⊕ b = a +ℤ b

unfoldable pub ◌⊖◌ : ℤ → ℤ → ℤ
a ⊖ b = a -ℤ b

unfoldable pub ◌⊗◌ : ℤ → ℤ → ℤ
a ⊗ b = a *ℤ b

unfoldable pub neg : ℤ → ℤ
neg a = neg_ℤ a

-- the lesser and the larger of two, the absolute value
unfoldable pub min_z : ℤ → ℤ → ℤ
min_z a b = a if le_z a b else b

unfoldable pub max_z : ℤ → ℤ → ℤ
max_z a b = b if le_z a b else a

unfoldable pub abs_z : ℤ → ℤ
abs_z a = pos (nat_abs a)

-- cut to −most..most
unfoldable pub cut : ℤ → ℤ → ℤ
cut most a = min_z most (max_z (neg most) a)

-- whether two are equal
infix 4 ◌≟◌
unfoldable pub ◌≟◌ : ℤ → ℤ → Bool
pos a ≟ pos b = eqb a b
pos a ≟ negsuc b = false
negsuc a ≟ pos b = false
negsuc a ≟ negsuc b = eqb a b

-- a number that is not negative, as a count; 0 for a negative one
unfoldable pub count : ℤ → ℕ
count (pos n) = n
count (negsuc n) = 0

-- the numbers that rows are made of
abbrev pub +0 : ℤ
+0 = pos 0

abbrev pub +1 : ℤ
+1 = pos 1

abbrev pub +2 : ℤ
+2 = pos 2

abbrev pub -1 : ℤ
-1 = negsuc 0

abbrev pub -2 : ℤ
-2 = negsuc 1
