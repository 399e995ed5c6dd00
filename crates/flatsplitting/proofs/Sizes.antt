-- How large the numbers of a sum's bounds are.
use Rattle.std.proofs.Common.{refl, List, [], ◌∷◌, length, ◌≡◌, sym, ◌∙◌, Bool, true, false, ℕ, ◌≤◌, ◌<◌, w64, ℤ, nat_abs, to_z, of_z}
use Rattle.std.specs.Prelude.{◌==◌}
use lib.Signed.{le_z, mag}
use Rattle.integers.specs.Choice.{◌if◌else◌}
use Rattle.integers.specs.Number.{min_z, max_z}
use Rattle.integers.specs.Bounds.{◌to◌, bounds_in}
use Rattle.integers.specs.declared.Bounds.{Bounds}
use Rattle.integers.proofs.Tests.{false-true}
use Rattle.flatsplitting.specs.Split.{best_by}
use Rattle.flatsplitting.specs.Pieces.{best_ends}
use Rattle.integers.proofs.Fits.{back}
use Rattle.words.specs.Word.{in_range}
use Rattle.words.specs.Small.{Near}
use Rattle.words.proofs.ReadBack.{range-near}

pub near : (z : ℤ) (r : Bool) → r ≡ in_range z → r ≡ true → Near z
near z r e f = range-near z (sym e ∙ f)

-- a machine number is the number that it holds
pub read : {x v : ℤ} → mag x < 9223372036854775808 → x ≡ v → to_z w64 (of_z w64 x) ≡ v
read {x} h e = back x h ∙ e

one_of : (t : Bool) (a b : ℤ) {m : ℕ} → nat_abs a ≤ m → nat_abs b ≤ m → nat_abs (a if t else b) ≤ m
one_of true a b h k = h
one_of false a b h k = k

pub least-size : (a b : ℤ) {m : ℕ} → nat_abs a ≤ m → nat_abs b ≤ m → nat_abs (min_z a b) ≤ m
unfolding min_z
least-size a b h k = one_of (le_z a b) a b h k

pub largest-size : (a b : ℤ) {m : ℕ} → nat_abs a ≤ m → nat_abs b ≤ m → nat_abs (max_z a b) ≤ m
unfolding max_z
largest-size a b h k = one_of (le_z a b) b a k h

-- ---- the best of a list, element by element

pub best-step : (pick : ℤ → ℤ → ℤ) (Bs : List Bounds) (xs : List ℕ) (v : ℕ) (others : List ℕ) → xs ≡ v ∷ others → false ≡ (length others == 0) →
    best_ends pick Bs xs ≡ (let B = best_ends pick Bs others in pick (bounds_in Bs v).lower B.lower to pick (bounds_in Bs v).upper B.upper)
unfolding best_by
best-step pick Bs xs v [] e f = false-true f
best-step pick Bs xs v (y ∷ ys) e f = rw e refl
