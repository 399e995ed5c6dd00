-- How large the numbers are that are made of bounds: callers owe that their sums fit.
use Rattle.std.proofs.Common.{Bool, true, false, ℕ, ◌≤◌, arith, ℤ, nat_abs}
use lib.Signed.{le_z}
use Rattle.integers.specs.Choice.{◌if◌else◌}
use Rattle.integers.specs.Number.{◌⊕◌, ◌⊖◌, min_z, max_z, +1}
use Rattle.integers.specs.Bounds.{◌to◌, width}
use Rattle.integers.specs.declared.Bounds.{Bounds}
use Rattle.integers.proofs.Fits.{plus-size, minus-size}
use Rattle.integers.proofs.Linear.{linear, rep}
use Rattle.integers.proofs.Sums.{count-le}
pub use Rattle.words.proofs.ReadBack.{product-size}
use Rattle.words.specs.Small.{Near}
use Rattle.rules.specs.Parts.{places}

-- one of two
chosen-size : (t : Bool) (a b : ℤ) {m : ℕ} → nat_abs a ≤ m → nat_abs b ≤ m → nat_abs (a if t else b) ≤ m
chosen-size true a b h k = h
chosen-size false a b h k = k

pub pick-size : (up : Bool) (a b : ℤ) {m : ℕ} → nat_abs a ≤ m → nat_abs b ≤ m → nat_abs ((max_z if up else min_z) a b) ≤ m
unfolding max_z min_z
pick-size true a b h k = chosen-size (le_z a b) b a k h
pick-size false a b h k = chosen-size (le_z a b) a b h k

-- how many values two bounds leave, and how many places of a list of n elements
pub width-size : (l u : ℤ) → Near l → Near u → width (l to u) ≤ 268435457
unfolding width
width-size l u h k = omega (arith, count-le (u ⊖ l ⊕ +1), plus-size (u ⊖ l) +1, minus-size u l)

pub places-width : (I : Bounds) (n : ℕ) → width (places I n) ≤ n
unfolding places width
places-width I n = rw (rep I.lower, rep I.upper) (simp linear (omega arith))
