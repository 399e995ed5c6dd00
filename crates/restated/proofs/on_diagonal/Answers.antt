-- The products of numbers up to 16,384 fit.
use Rattle.std.proofs.Common.{to_z-of_z}
use Rattle.integers.proofs.Fits.{back}
use Rattle.bitlines.proofs.Line.{twice-product, diagonal-size}
use Rattle.restated.proofs.on_diagonal.Goals as goal

pub times-requires-3 : goal.times-requires-3
times-requires-3 c =
    rw (back c.times-2.result c.times-2.type_inv, c.times-2.ensures.value, to_z-of_z c.ranges.c, to_z-of_z c.ranges.a) (twice-product c.args.c c.args.a c.requires.1 c.requires.0)

pub plus-requires : goal.plus-requires
plus-requires c =
    rw (back c.times-3.result c.times-3.type_inv, c.times-3.ensures.value, back c.times-2.result c.times-2.type_inv, c.times-2.ensures.value, back c.times.result c.times.type_inv, c.times.ensures.value, to_z-of_z c.ranges.c, to_z-of_z c.ranges.a)
    (diagonal-size c.args.a c.args.c c.requires.0 c.requires.1)
