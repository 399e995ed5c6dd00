-- The number is cut, so that the product fits.
use Rattle.std.proofs.Common.{refl, arith, to_z-of_z}
use Rattle.integers.proofs.Fits.{back}
use Rattle.bittaking.proofs.Far.{taken-cut, times-near}
use Rattle.bittaking.proofs.take.Goals as goal

pub times-requires : goal.times-requires
times-requires c =
    rw (to_z-of_z c.ranges.k, back c.cut_to.result c.cut_to.type_inv, c.cut_to.ensures, to_z-of_z c.ranges.e) (omega (arith, times-near c.args.k c.args.e c.requires.0))

pub plus-requires : goal.plus-requires
plus-requires c =
    rw (back c.times.result c.times.type_inv, to_z-of_z c.ranges.a)
    (omega (arith, rw (to_z-of_z c.ranges.k, back c.cut_to.result c.cut_to.type_inv, c.cut_to.ensures, to_z-of_z c.ranges.e) at c.times.ensures.size, times-near c.args.k c.args.e c.requires.0, c.requires.1))

pub returns : goal.returns
returns c =
    taken-cut c.args.k c.args.e c.args.a _ c.requires.0 c.requires.1
    (rw (back c.plus.result c.plus.type_inv, c.plus.ensures.value, back c.times.result c.times.type_inv, c.times.ensures.value, to_z-of_z c.ranges.k, back c.cut_to.result c.cut_to.type_inv, c.cut_to.ensures, to_z-of_z c.ranges.e, to_z-of_z c.ranges.a) refl)
