-- The loop's invariant is `Writing`: the entries of the bits passed are written.
use Rattle.bitlines.proofs.Writing.{Writing}
use Rattle.bitlines.proofs.put_line.Given as goal

abbrev pub invariant-loop-d : goal.invariant-loop-d
invariant-loop-d l = Writing l.at l.i l.m l.initial.out l.line l.out l.next l.d
