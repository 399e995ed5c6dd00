-- The product of numbers near 0 fits; it is in the range, so near 0.
use Rattle.std.proofs.Common.{ap, arith, nat_abs, to_z-of_z}
use Rattle.integers.proofs.Fits.{back}
use Rattle.words.proofs.ReadBack.{range-near}
use Rattle.picking.proofs.Output.product.Goals as goal

pub returns-clause-near : goal.returns-clause-near
returns-clause-near c =
    let e = rw (to_z-of_z c.ranges.a, to_z-of_z c.ranges.b) at c.times-v.ensures.value in
    rw (back c.times-v.result c.times-v.type_inv) (omega (arith, ap nat_abs e, range-near _ c.requires.3))
