-- The loop's invariant is `Gridding`: the pairs of the first factor's bits passed are added.
use Rattle.bitrows.proofs.Pairs.{Gridding}
use Rattle.bitrows.proofs.add_pairs.Given as goal

abbrev pub invariant-loop-a : goal.invariant-loop-a
invariant-loop-a l = Gridding l.initial.line l.u l.v l.first l.i l.n l.line l.a l.t
