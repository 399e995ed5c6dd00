-- The loop's invariant is `Keeping`: laying the bounds of the words left gives what laying them all gives.
use Rattle.extremes.proofs.Kept.{Keeping}
use Rattle.extremes.proofs.keep_bounds.Given as goal

abbrev pub invariant-loop-i : goal.invariant-loop-i
invariant-loop-i l = Keeping l.ws l.initial.domains l.domains l.i l.n
