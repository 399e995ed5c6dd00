-- The loop's invariant: the test so far is that over the places passed.
use Rattle.std.proofs.Common.{◌≡◌, ◌+◌}
use Rattle.integers.specs.Number.{◌≟◌}
use Rattle.integers.specs.Lists.{list_of, any}
use Rattle.models.specs.Model.{num}
use Rattle.arguments.proofs.is_member.Given as goal

abbrev pub invariant-loop-k : goal.invariant-loop-k
invariant-loop-k l = l.found ≡ any (λ v. l.x ≟ v) (list_of (λ j. num l.args (l.i + 1 + j)) l.k)
