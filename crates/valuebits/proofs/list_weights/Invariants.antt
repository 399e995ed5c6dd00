-- The loop's invariant is `Listing`: the weights that are left make the list whole.
use Rattle.bitforms.specs.Weights.{weights}
use Rattle.valuebits.proofs.Choosing.{Listing}
use Rattle.valuebits.proofs.list_weights.Given as goal

abbrev pub invariant-loop-left : goal.invariant-loop-left
invariant-loop-left l = Listing l.initial.list (weights l.width) l.list l.width l.at l.weight l.left

abbrev pub decreases-loop-left : goal.decreases-loop-left
decreases-loop-left l = l.left
