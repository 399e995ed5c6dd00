-- The loop's invariant is `Crossed`: what is still to be added makes the sum whole.
use Rattle.std.proofs.Common.{◌+◌, ◌*◌}
use Rattle.integers.specs.Number.{neg}
use Rattle.integers.specs.Terms.{sum}
use Rattle.bitforms.specs.Weights.{weights}
use Rattle.bitrows.specs.Terms.{cross}
use Rattle.bitreading.specs.BitsGiven.{bits_in}
use Rattle.bitenergy.proofs.Crossed.{Crossed}
use Rattle.bitenergy.proofs.weigh_products.Given as goal

abbrev pub invariant-loop-left : goal.invariant-loop-left
invariant-loop-left l =
    Crossed l.bits.bytes.now l.b (neg (sum (bits_in l.bits.bytes.now) (cross l.first (weights l.a) (weights l.b)))) (l.first + 62 * l.a) (l.a + 1) (l.b * l.a) l.total l.at l.weight l.left

abbrev pub decreases-loop-left : goal.decreases-loop-left
decreases-loop-left l = l.left
