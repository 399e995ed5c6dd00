use Rattle.std.proofs.Common.{length}
use Rattle.flatsplitting.proofs.+best_bounds.Given as goal

abbrev pub decreases-best_bounds : goal.decreases-best_bounds
decreases-best_bounds l = length l.numbers.now
