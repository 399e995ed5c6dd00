-- The products of numbers up to 16,384 fit.
use Rattle.std.proofs.Common.{to_z-of_z}
use Rattle.integers.proofs.Fits.{back}
use Rattle.bitlines.proofs.Line.{twice-product}
use Rattle.restated.proofs.off_diagonal.Goals as goal

pub times-requires-2 : goal.times-requires-2
times-requires-2 c =
    rw (back c.times.result c.times.type_inv, c.times.ensures.value, to_z-of_z c.ranges.a, to_z-of_z c.ranges.b) (twice-product c.args.a c.args.b c.requires.0 c.requires.1)
