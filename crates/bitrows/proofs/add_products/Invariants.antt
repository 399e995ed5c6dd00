-- The loop's invariant is `Crossing`: what is still to be added makes the row whole.
use Rattle.std.proofs.Common.{◌+◌, ◌*◌, length}
use Rattle.bitforms.specs.Weights.{weights}
use Rattle.bitlines.specs.Dense.{add_terms}
use Rattle.bitrows.specs.Terms.{cross}
use Rattle.bitrows.proofs.Cross.{Crossing}
use Rattle.bitrows.proofs.add_products.Given as goal

abbrev pub invariant-loop-left : goal.invariant-loop-left
invariant-loop-left l =
    Crossing (add_terms l.initial.row (cross l.first (weights l.a) (weights l.b))) (l.first + length (cross l.first (weights l.a) (weights l.b))) (l.first + l.a * l.b) (l.a + 1) l.b l.row l.at l.weight l.left

abbrev pub decreases-loop-left : goal.decreases-loop-left
decreases-loop-left l = l.left
