-- The invariant is `Squaring`: to the lines at the places passed the square is added.
use Rattle.std.proofs.Common.{◌+◌}
use Rattle.bitplaces.specs.SquareAdded.{SquareAdded}
use Rattle.bitwriting.proofs.Squaring.{Squaring}
use Rattle.bitwriting.proofs.add_at_places.Given as goal

abbrev pub invariant-loop-x : goal.invariant-loop-x
invariant-loop-x l = Squaring (λ q. SquareAdded l.row l.c (l.i + q)) l.n l.i l.h l.places l.k l.initial.band l.band l.x
