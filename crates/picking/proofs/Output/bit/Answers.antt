-- 0 and 1 are in the range.
use Rattle.picking.proofs.Only.{bit_in}
use Rattle.picking.proofs.Output.bit.Goals as goal

pub put_if-requires : goal.put_if-requires
put_if-requires c = (c.requires, bit_in c.args.test)
