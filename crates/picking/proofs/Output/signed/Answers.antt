-- One number, then two more.
use Rattle.std.proofs.Common.{suc, arith, to_z-of_z, rules}
use Rattle.picking.proofs.Puts.{then_puts}
use Rattle.rules.specs.Pick.{signed_pick}
use Rattle.picking.proofs.Output.signed.Goals as goal

pub put-requires : goal.put-requires
unfolding signed_pick
put-requires c = (search rules, rw (to_z-of_z c.ranges.x) (c.requires.1 0))

pub sign-requires : goal.sign-requires
unfolding signed_pick
sign-requires c = (omega (arith, c.put.ensures.laid.ends), rw (to_z-of_z c.ranges.x) (λ k. c.requires.1 (suc k)))

pub returns : goal.returns
unfolding signed_pick
returns c = rw (to_z-of_z c.ranges.x) at (then_puts c.put.ensures c.sign.ensures)
