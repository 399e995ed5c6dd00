-- The invariant: reading the rest from here gives what reading the whole gives, and the variables so far are counted.
use Rattle.std.proofs.Common.{◌-◌, length, map}
use Rattle.models.specs.Shapes.{shape_number}
use Rattle.modelreading.proofs.Loop.{Opening}
use Rattle.modelreading.proofs.read_variables.Given as goal

abbrev pub invariant-loop-declared : goal.invariant-loop-declared
invariant-loop-declared l = Opening l.ws (map shape_number l.types) l.v l.at

abbrev pub decreases-loop-declared : goal.decreases-loop-declared
decreases-loop-declared l = length l.ws - l.at
