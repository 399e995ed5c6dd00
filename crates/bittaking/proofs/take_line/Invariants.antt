-- The invariant is `Passing`: the numbers passed are taken.
use Rattle.bittaking.proofs.Line.{Passing}
use Rattle.bittaking.proofs.take_line.Given as goal

abbrev pub invariant-loop-d : goal.invariant-loop-d
invariant-loop-d l = Passing l.taken.times l.i l.d l.initial.line l.line
