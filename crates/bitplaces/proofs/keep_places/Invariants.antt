-- The invariant is `Keeping`: the places passed that are kept.
use Rattle.bitplaces.proofs.Keeping.{Keeping}
use Rattle.bitplaces.proofs.keep_places.Given as goal

abbrev pub invariant-loop-j : goal.invariant-loop-j
invariant-loop-j l = Keeping l.row l.from l.places l.j l.k
