-- The loop's invariant: the total is the sum over the places passed, and at most 2^54 for each.
use Rattle.std.proofs.Common.{◌≡◌, ◌+◌, ◌*◌, ◌≤◌, nat_abs}
use Rattle.integers.specs.Lists.{list_of}
use Rattle.integers.specs.Terms.{◌·◌, value, sum}
use Rattle.models.specs.Model.{var, num}
use Rattle.arguments.proofs.near.NearInstance.sum.Given as goal

abbrev pub invariant-loop-k : goal.invariant-loop-k
invariant-loop-k l =
    (nat_abs l.total ≤ l.k * 18014398509481984)
    × (l.total ≡ sum (value l.self.instance.values.now) (list_of (λ j. num l.self.instance.args.now (l.i + 1 + j) · var l.self.instance.args.now (l.variables + j)) l.k))
