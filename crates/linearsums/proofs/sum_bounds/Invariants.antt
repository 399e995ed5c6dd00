-- The invariant: the total is L and U of the terms passed, each of which adds at most 2^54.
use Rattle.std.proofs.Common.{◌≡◌, ◌+◌, ◌*◌, ◌≤◌, nat_abs}
use Rattle.integers.specs.Bounds.{bounds_in}
use Rattle.linearsums.specs.Places.{sum_up_to}
use Rattle.linearsums.proofs.sum_bounds.Given as goal

abbrev pub invariant-loop-k : goal.invariant-loop-k
invariant-loop-k l =
    (l.total ≡ sum_up_to l.ws l.a (bounds_in l.domains) l.k)
    × (nat_abs l.total.lower ≤ (l.k + 1) * 18014398509481984)
    × (nat_abs l.total.upper ≤ (l.k + 1) * 18014398509481984)
