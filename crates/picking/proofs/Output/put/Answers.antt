-- A number of the range fits.
use Rattle.std.proofs.Common.{◌∙◌, refl, to_z-of_z}
use Rattle.words.specs.Overlay.{overlay}
use Rattle.picking.proofs.Writing.{fits}
use Rattle.picking.proofs.Output.put.Goals as goal

pub overflow_cast-v : goal.overflow_cast-v
overflow_cast-v c = rw (to_z-of_z c.ranges.v) (fits c.args.v c.requires.1)

pub returns : goal.returns
unfolding overlay
returns c = record {
  laid = record { over = c.put.ensures ∙ rw (to_z-of_z c.ranges.v, to_z-of_z (fits c.args.v c.requires.1)); ends = refl };
  same_list = refl;
}
