-- The loop's invariant: what is found is the count over the places passed.
use Rattle.std.proofs.Common.{◌≡◌, ◌+◌, ◌≤◌}
use Rattle.integers.specs.Number.{◌≟◌}
use Rattle.integers.specs.Lists.{list_of, how_many}
use Rattle.integers.specs.Terms.{value}
use Rattle.models.specs.Model.{var}
use Rattle.arguments.proofs.instance.Instance.how_many.Given as goal

abbrev pub invariant-loop-k : goal.invariant-loop-k
invariant-loop-k l = (l.found ≤ l.k) × (l.found ≡ how_many (λ x. value l.self.values.now x ≟ l.v) (list_of (λ j. var l.self.args.now (l.i + 1 + j)) l.k))
