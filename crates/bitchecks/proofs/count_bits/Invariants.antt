-- The invariant is `Counting`: the bits of the rows left are still to be counted.
use Rattle.bitchecks.proofs.Walk.{Counting}
use Rattle.bitchecks.proofs.count_bits.Given as goal

abbrev pub invariant-loop-at : goal.invariant-loop-at
invariant-loop-at l = Counting l.ws l.domains l.start l.first l.at
