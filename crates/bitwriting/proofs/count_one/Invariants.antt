-- The invariant is `Counting`: the words of the entries passed, and whether these are in the range.
use Rattle.bitwriting.proofs.Putting.{Counting}
use Rattle.bitwriting.proofs.count_one.Given as goal

abbrev pub invariant-loop-j : goal.invariant-loop-j
invariant-loop-j l = Counting l.line l.i l.at l.to l.j l.fit
