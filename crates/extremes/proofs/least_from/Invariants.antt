-- The loop's invariant: the least so far is that over the places passed.
use Rattle.std.proofs.Common.{◌≡◌, ◌+◌}
use Rattle.integers.specs.Lists.{list_of}
use Rattle.models.specs.Model.{num}
use Rattle.rules.specs.Parts.{least_from}
use Rattle.extremes.proofs.least_from.Given as goal

abbrev pub invariant-loop-k : goal.invariant-loop-k
invariant-loop-k l = l.least_yet ≡ least_from (list_of (λ j. num l.args (l.i + 1 + j)) l.k) l.from l.above
