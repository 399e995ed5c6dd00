-- Three bits and a product, one after the other.
use Rattle.std.proofs.Common.{arith, to_z-of_z}
use Rattle.integers.proofs.Fits.{back}
use Rattle.picking.proofs.Puts.{then_puts}
use Rattle.rules.specs.Pick.{division_pick}
use Rattle.picking.proofs.Division.{division-pick}
use Rattle.picking.proofs.Output.division.Goals as goal

pub put-requires : goal.put-requires
unfolding division_pick
put-requires c = (
  omega (arith, c.bit.ensures.laid.ends, c.bit-2.ensures.laid.ends, c.requires.0),
  rw (back c.times.result c.times.type_inv, c.times.ensures.value, to_z-of_z c.ranges.d, to_z-of_z c.ranges.q) (c.requires.3 2),
)

pub returns : goal.returns
returns c =
    rw division-pick
    (rw (back c.times.result c.times.type_inv, c.times.ensures.value, to_z-of_z c.ranges.n, to_z-of_z c.ranges.d, to_z-of_z c.ranges.q) at
    (then_puts c.bit.ensures (then_puts c.bit-2.ensures (then_puts c.put.ensures c.bit-3.ensures))))
