-- A number that is not negative as a count.
use Rattle.std.proofs.Common.{◌≡◌, refl, sym, ◌∙◌, le-leb, true, false, ℕ, ℤ, pos, negsuc, nat_abs, arith}
use Rattle.std.specs.Int.Signed.{le_z}
use Rattle.std.specs.Bool.{nat_eq}
use Rattle.integers.proofs.Tests.{false-true}
use Rattle.integers.specs.Number.{◌≟◌}

pub counted : (n : ℤ) (k : ℕ) → le_z (pos 0) n ≡ true → nat_eq (nat_abs n) k ≡ (n ≟ pos k)
unfolding ◌≟◌
counted (pos m) k h = refl
counted (negsuc m) k h = cc

pub negative : (n : ℤ) (k : ℕ) → le_z (pos 0) n ≡ false → (n ≟ pos k) ≡ false
unfolding ◌≟◌
negative (pos m) k h = let e : le_z (pos 0) (pos m) ≡ true = le-leb 0 m (omega arith) in false-true (sym h ∙ e)
negative (negsuc m) k h = refl
