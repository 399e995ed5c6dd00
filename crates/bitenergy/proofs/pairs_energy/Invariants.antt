-- The loop's invariant is `Totalled`: what the bits passed add with the others; and the number of the next product's bit.
use Rattle.std.proofs.Common.{◌≡◌, ◌+◌, ◌*◌}
use Rattle.bitreading.specs.BitsGiven.{bits_in}
use Rattle.bitenergy.specs.Pairs.{pairs_energy}
use Rattle.bitenergy.proofs.Pairs.{Totalled}
use Rattle.bitenergy.proofs.pairs_energy.Given as goal

abbrev pub invariant-loop-a : goal.invariant-loop-a
invariant-loop-a l =
    Totalled (λ a. pairs_energy (bits_in l.bits.bytes.now) (l.u + a) l.v (l.first + a * l.n) l.n) l.m (3 * l.n) l.total l.a × (l.t ≡ l.first + l.a * l.n)
