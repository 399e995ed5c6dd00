-- The invariant: the values before the place are the lower bounds.
use Rattle.solutions.proofs.Values.{Setting}
use Rattle.solutions.proofs.set_lowest.Given as goal

abbrev pub invariant-loop-i : goal.invariant-loop-i
invariant-loop-i l = Setting l.domains l.initial.values l.values l.i
