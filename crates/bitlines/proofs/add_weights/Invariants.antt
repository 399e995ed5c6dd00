-- The loop's invariant is `Adding`: what is still to be added makes the row whole.
use Rattle.std.proofs.Common.{◌+◌, length}
use Rattle.bitforms.specs.Weights.{weights}
use Rattle.bitforms.specs.OverBits.{weighted_bits, scaled}
use Rattle.bitlines.specs.Dense.{add_terms}
use Rattle.bitlines.proofs.Dense.{Adding}
use Rattle.bitlines.proofs.add_weights.Given as goal

abbrev pub invariant-loop-left : goal.invariant-loop-left
invariant-loop-left l =
    Adding l.k (add_terms l.initial.row (scaled l.k (weighted_bits l.first (weights l.width)))) (l.first + length (weights l.width)) (l.first + l.width) (l.width + 1) l.row l.at l.weight l.left

abbrev pub decreases-loop-left : goal.decreases-loop-left
decreases-loop-left l = l.left
