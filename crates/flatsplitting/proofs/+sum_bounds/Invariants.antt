use Rattle.std.proofs.Common.{length}
use Rattle.flatsplitting.proofs.+sum_bounds.Given as goal

abbrev pub decreases-sum_bounds : goal.decreases-sum_bounds
decreases-sum_bounds l = length l.terms.now
