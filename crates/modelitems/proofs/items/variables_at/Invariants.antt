-- The loop's invariant: reading went on past the variables passed.
use Rattle.std.proofs.Common.{◌+◌, ◌-◌, map}
use Rattle.models.specs.Shapes.{shape_number}
use Rattle.modelitems.specs.Onward.{VariablesRead}
use Rattle.modelitems.proofs.items.variables_at.Given as goal

abbrev pub invariant-loop-place : goal.invariant-loop-place
invariant-loop-place l = VariablesRead l.ws (map shape_number l.types) (shape_number l.wanted) l.n l.at (l.at + l.n - l.place) (record { number = 0; at = l.place })
