-- The half is in the range.
use Rattle.std.proofs.Common.{rules}
use Rattle.integers.proofs.Fits.{back}
use Rattle.models.specs.Model.{builtin, builtins}
use Rattle.models.specs.Meaning.{on}
use Rattle.rules.specs.Pick.{pick}
use Rattle.picking.proofs.pick_odd.Goals as goal

pub put-requires : goal.put-requires
unfolding on pick builtin builtins
put-requires c = (search rules, rw (back c.half_less.result c.half_less.type_inv, c.half_less.ensures, c.how_many.ensures) (c.requires.ranged 0))

pub returns : goal.returns
unfolding on pick builtin builtins
returns c = rw (back c.half_less.result c.half_less.type_inv, c.half_less.ensures, c.how_many.ensures) at c.put.ensures
