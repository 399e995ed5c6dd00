-- The loop's invariant is `Choosing`: the bits of the weights from the index on are put, and what they leave of the number.
use Rattle.valuebits.proofs.Choosing.{Choosing}
use Rattle.valuebits.proofs.put_chosen.Given as goal

abbrev pub invariant-loop-i : goal.invariant-loop-i
invariant-loop-i l = Choosing l.list l.x l.at l.initial.out l.out l.left l.i

abbrev pub decreases-loop-i : goal.decreases-loop-i
decreases-loop-i l = l.i
