-- The invariant: the values of the variables passed stand in the list.
use Rattle.std.proofs.Common.{◌≡◌, ℕ, ◌<◌, ◌≤◌, nat_abs, get_or}
use Rattle.integers.specs.Number.{+0}
use Rattle.bitrows.specs.Values.{largest_value}
use Rattle.bitenergy.specs.Reads.{value_of}
use Rattle.bitenergy.proofs.keep_values.Given as goal

abbrev pub invariant-loop-v : goal.invariant-loop-v
invariant-loop-v l = (w : ℕ) → w < l.v → (get_or l.values w +0 ≡ value_of l.bits l.table w) × (nat_abs (get_or l.values w +0) ≤ largest_value)
