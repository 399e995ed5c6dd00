-- The invariant: no number passed is larger, and the number is not larger than the largest.
use Rattle.std.proofs.Common.{ℕ, ◌<◌, ◌≤◌, nat_abs, get_or}
use Rattle.integers.specs.Number.{+0}
use Rattle.bitlines.specs.Dense.{peak}
use Rattle.bitbounds.proofs.peak_of.Given as goal

abbrev pub invariant-loop-k : goal.invariant-loop-k
invariant-loop-k l = (l.most ≤ peak l.row) × ((j : ℕ) → j < l.k → nat_abs (get_or l.row j +0) ≤ l.most)
