-- The loop's invariant is `Weighing`: what is still to be added makes the sum whole.
use Rattle.std.proofs.Common.{◌+◌}
use Rattle.integers.specs.Terms.{sum}
use Rattle.bitforms.specs.Weights.{weights}
use Rattle.bitforms.specs.OverBits.{weighted_bits}
use Rattle.bitreading.specs.BitsGiven.{bits_in}
use Rattle.bitreading.proofs.Weighing.{Weighing}
use Rattle.bitreading.proofs.weigh.Given as goal

abbrev pub invariant-loop-left : goal.invariant-loop-left
invariant-loop-left l =
    Weighing l.bits.bytes.now (sum (bits_in l.bits.bytes.now) (weighted_bits l.first (weights l.width))) (l.first + l.width) (l.width + 1) l.width l.total l.at l.weight l.left

abbrev pub decreases-loop-left : goal.decreases-loop-left
decreases-loop-left l = l.left
