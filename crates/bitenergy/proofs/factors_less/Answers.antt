use Rattle.std.proofs.Common.{arith, to_z-of_z}
use Rattle.integers.proofs.Fits.{back}
use Rattle.arguments.proofs.Size.{read}
use Rattle.bitenergy.proofs.Factors.{less-size}
use Rattle.bitenergy.proofs.factors_less.Goals as goal

pub plus-requires : goal.plus-requires
plus-requires c =
    let z = less-size c.args.lf c.args.vf c.args.lg c.args.vg c.requires.0 c.requires.1 c.requires.2 c.requires.3 in
    rw (read c.times.type_inv c.times.ensures.value, read c.times-2.type_inv c.times-2.ensures.value, read c.minus.type_inv c.minus.ensures.value, to_z-of_z c.ranges.lf, to_z-of_z c.ranges.vg, to_z-of_z c.ranges.lg, to_z-of_z c.ranges.vf)
    (omega (arith, z.2, z.3))

pub returns-clause-size : goal.returns-clause-size
returns-clause-size c =
    let z = less-size c.args.lf c.args.vf c.args.lg c.args.vg c.requires.0 c.requires.1 c.requires.2 c.requires.3 in
    let s = rw (read c.times.type_inv c.times.ensures.value, read c.times-2.type_inv c.times-2.ensures.value, read c.minus.type_inv c.minus.ensures.value, to_z-of_z c.ranges.lf, to_z-of_z c.ranges.vg, to_z-of_z c.ranges.lg, to_z-of_z c.ranges.vf)
    at c.plus.ensures.size in
    rw (back c.plus.result c.plus.type_inv) (omega (arith, s, z.2, z.3))
