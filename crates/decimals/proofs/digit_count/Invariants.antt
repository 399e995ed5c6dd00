-- The invariant: the digits counted and those left are one more than all. The measure: the number left.
use Rattle.std.proofs.Common.{◌≡◌, ◌+◌, ◌≤◌, ◌<◌, length}
use Rattle.decimals.specs.Decimal.{decimal}
use Rattle.decimals.proofs.digit_count.Given as goal

abbrev pub invariant-loop-rest : goal.invariant-loop-rest
invariant-loop-rest l = (0 < l.count) × (l.count + l.rest ≤ l.n + 1) × (length (decimal l.n) + 1 ≡ l.count + length (decimal l.rest))

abbrev pub decreases-loop-rest : goal.decreases-loop-rest
decreases-loop-rest l = l.rest
