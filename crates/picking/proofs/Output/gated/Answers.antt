-- The bits, then the products.
use Rattle.std.proofs.Common.{arith, to_z-of_z, rules}
use Rattle.integers.specs.Number.{+1}
use Rattle.picking.proofs.Puts.{then_puts}
use Rattle.picking.specs.Only.{only_at}
use Rattle.picking.proofs.Writing.{ranged-right}
use Rattle.picking.proofs.Only.{bits-ranged, only-length}
use Rattle.picking.proofs.Output.gated.Goals as goal

pub only-requires : goal.only-requires
only-requires c = (search rules, bits-ranged c.args.n c.args.h)

pub only-requires-2 : goal.only-requires-2
only-requires-2 c =
    (omega (arith, c.only.ensures.laid.ends, only-length c.args.n c.args.h +1), rw (to_z-of_z c.ranges.x) (ranged-right (only_at c.args.n c.args.h +1) (only_at c.args.n c.args.h c.args.x) c.requires.1))

pub returns : goal.returns
returns c = rw (to_z-of_z c.ranges.x) at (then_puts c.only.ensures c.only-2.ensures)
