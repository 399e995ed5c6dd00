-- The loop's invariant is `Keeping`: the bits of the variables passed are kept.
use Rattle.bittables.specs.BitTables.{firsts, counts}
use Rattle.bittables.proofs.Keeping.{Keeping}
use Rattle.bittables.proofs.keep_bits.Given as goal

abbrev pub invariant-loop-v : goal.invariant-loop-v
invariant-loop-v l = Keeping l.domains (firsts l.initial.bits) (counts l.initial.bits) (firsts l.bits) (counts l.bits) l.at l.v
