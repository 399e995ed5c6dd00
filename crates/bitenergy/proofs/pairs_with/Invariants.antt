-- The loop's invariant is `Totalled`: what the pairs passed add.
use Rattle.std.proofs.Common.{◌+◌}
use Rattle.bitforms.specs.Energy.{added}
use Rattle.bitlines.specs.Line.{pair_of}
use Rattle.bitreading.specs.BitsGiven.{bits_in}
use Rattle.bitenergy.proofs.Pairs.{Totalled}
use Rattle.bitenergy.proofs.pairs_with.Given as goal

abbrev pub invariant-loop-b : goal.invariant-loop-b
invariant-loop-b l = Totalled (λ b. added (bits_in l.bits.bytes.now) (pair_of l.u (l.v + b) (l.t + b))) l.n 3 l.total l.b
