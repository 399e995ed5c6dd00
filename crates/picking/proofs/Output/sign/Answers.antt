-- Both numbers are 0 unless x is negative.
use Rattle.std.proofs.Common.{arith, to_z-of_z}
use Rattle.picking.proofs.Puts.{then_puts}
use Rattle.rules.specs.Pick.{sign_pick}
use Rattle.picking.proofs.Only.{bit-times, sign-pick}
use Rattle.picking.proofs.Output.sign.Goals as goal

pub put_if-requires : goal.put_if-requires
unfolding sign_pick
put_if-requires c =
    (omega (arith, c.bit.ensures.laid.ends), rw (to_z-of_z c.ranges.x) (rw bit-times at (c.requires.1 1)))

pub returns : goal.returns
returns c =
    rw (sign-pick) (rw (to_z-of_z c.ranges.x) at (then_puts c.bit.ensures c.put_if.ensures))
