-- A number of the range fits.
use Rattle.std.proofs.Common.{◌∙◌, to_z-of_z}
use Rattle.picking.proofs.Writing.{fits}
use Rattle.picking.proofs.Output.put_at.Goals as goal

pub overflow_cast-v : goal.overflow_cast-v
overflow_cast-v c = rw (to_z-of_z c.ranges.v) (fits c.args.v c.requires.1)

pub returns-clause-list : goal.returns-clause-list
returns-clause-list c = c.put.ensures ∙ rw (to_z-of_z c.ranges.v, to_z-of_z (fits c.args.v c.requires.1))
