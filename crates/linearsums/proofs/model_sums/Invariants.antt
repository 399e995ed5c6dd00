-- The invariant: the list has L and U of the constraints passed.
use Rattle.std.proofs.Common.{◌+◌, get_or}
use Rattle.integers.specs.Bounds.{bounds_in}
use Rattle.linearsums.specs.Places.{sum_bounds}
use Rattle.linearsums.proofs.Filling.{Filling}
use Rattle.linearsums.proofs.model_sums.Given as goal

abbrev pub invariant-loop-k : goal.invariant-loop-k
invariant-loop-k l = Filling (λ k. sum_bounds l.ws (get_or l.heads k 0 + 1) (bounds_in l.domains)) l.initial.sums l.sums l.k
