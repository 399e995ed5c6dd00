-- What 37 and 38 pick, as the code writes it.
use Rattle.std.proofs.Common.{◌≡◌, refl, ap, Bool, true, false, ◌&&◌, [], ◌∷◌, ℤ, pos, negsuc}
use native.Mathlib.Nat.{div-zero}
use lib.Signed.{le_z, lt_z, quot_z}
use Rattle.integers.specs.Choice.{◌if◌else◌}
use Rattle.integers.specs.Number.{◌⊗◌, ◌≟◌, +0, +1}
use Rattle.integers.proofs.Fits.{above_zero}
use Rattle.integers.proofs.Tests.{says-equal}
use Rattle.rules.specs.Pick.{bit_of, division_pick}

-- the product of two bits is 1 where both are
both_bits : (a b : Bool) → bit_of a ⊗ bit_of b ≡ (+1 if a && b else +0)
unfolding bit_of ◌⊗◌
both_bits true true = refl
both_bits true false = refl
both_bits false true = refl
both_bits false false = refl

pub division-pick : (n d q : ℤ) → division_pick n d q ≡
    (+1 if le_z +0 n else +0) ∷ (+1 if lt_z +0 d else +0) ∷ (d ⊗ q) ∷ (+1 if le_z +0 n && lt_z +0 d else +0) ∷ []
unfolding division_pick bit_of
division-pick n d q = ap (λ g. (+1 if le_z +0 n else +0) ∷ (+1 if lt_z +0 d else +0) ∷ (d ⊗ q) ∷ g ∷ []) (both_bits (le_z +0 n) (lt_z +0 d))

-- by zero the quotient of the definition is 0
pub by_zero : (n d : ℤ) → (d ≟ +0) ≡ true → +0 ≡ quot_z n d
by_zero n d e = rw ((says-equal d +0).0 e) (go n)
  where
    go : (n : ℤ) → +0 ≡ quot_z n +0
    go (pos n) = rw div-zero
    go (negsuc n) = rw div-zero

pub ruleset divisions = (above_zero, by_zero)
