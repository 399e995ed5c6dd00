-- The invariant is `Placed` of the line with the entry of the bit itself.
use Rattle.std.proofs.Common.{get_or}
use Rattle.integers.specs.Number.{◌⊗◌, +0, +2}
use Rattle.bitplaces.proofs.Placed.{Placed}
use Rattle.bitplaces.proofs.add_square_at.Given as goal

abbrev pub invariant-loop-y : goal.invariant-loop-y
invariant-loop-y l = Placed l.row l.initial.line (+2 ⊗ get_or l.row l.i +0) l.i l.places l.k l.line l.y
