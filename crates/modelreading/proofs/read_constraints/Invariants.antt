-- The invariant: reading the rest from here gives what reading the whole gives, and the heads so far are kept.
use Rattle.std.proofs.Common.{◌-◌, length, map}
use Rattle.models.specs.Shapes.{shape_number}
use Rattle.modelreading.proofs.Loop.{Posing}
use Rattle.modelreading.proofs.read_constraints.Given as goal

abbrev pub invariant-loop-first : goal.invariant-loop-first
invariant-loop-first l = Posing l.ws (map shape_number l.types) l.heads l.sources l.c l.at

abbrev pub decreases-loop-first : goal.decreases-loop-first
decreases-loop-first l = length l.ws - l.at
