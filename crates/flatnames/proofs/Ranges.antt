-- Numbers in the range of models, and how many numbers a range of these has.
use Rattle.std.proofs.Common.{◌≡◌, ◌↔◌, ◌≤◌, leb-true, le-leb, true, ℤ, pos, nat_abs, arith}
use Rattle.std.specs.Int.Signed.{lt_z}
use Rattle.integers.specs.Number.{◌⊕◌, ◌⊖◌, count, +1}
use Rattle.integers.specs.Bounds.{◌to◌, width}
use Rattle.integers.proofs.Linear.{◌⊑◌, ◌⊏◌, linear}
use Rattle.integers.proofs.Tests.{says-lt, says-within, same_test}
use Rattle.words.specs.Limit as Limit
use Rattle.flatnames.specs.Due.{in_range, is_short}

size : (n : ℤ) → Limit.lowest ⊑ n → n ⊑ Limit.highest → nat_abs n ≤ 134217727
size = simp linear (omega arith)

pub near : (n : ℤ) → in_range n ≡ true → nat_abs n ≤ 134217727
unfolding in_range
near n e = let h = (says-within Limit.range n).0 e in size n h.0 h.1

counted : (z : ℤ) → (z ⊏ pos 32) ↔ (count (z ⊕ +1) ≤ 32)
counted = simp linear (λ w. (λ h. omega arith, λ h. omega arith))

pub narrow : (lo hi : ℤ) → lt_z (hi ⊖ lo) (pos 32) ≡ is_short (width (lo to hi))
unfolding width
narrow lo hi = same_test (says-lt (hi ⊖ lo) (pos 32)) (leb-true _ _, le-leb _ _) (counted (hi ⊖ lo))
