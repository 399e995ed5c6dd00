-- Past its end the list stays as it is.
use Rattle.std.proofs.Common.{refl, sym, arith, get_or, to_z-of_z}
use lib.Seq.{set_out}
use Rattle.integers.specs.Number.{+0}
use Rattle.integers.proofs.Fits.{back}
use Rattle.bitlines.specs.Dense.{bump}
use Rattle.bitlines.proofs.Dense.{peak-at}
use Rattle.bitlines.proofs.add_at.Goals as goal

pub plus-requires : goal.plus-requires
plus-requires c =
    rw (back (get_or c.args.row.now c.args.i +0) (omega arith), to_z-of_z c.ranges.k) (omega (arith, peak-at c.args.row.now c.args.i, c.requires))

pub returns-then-i-row : goal.returns-then-i-row
unfolding bump
returns-then-i-row c =
    rw (back c.plus.result c.plus.type_inv, c.plus.ensures.value, back (get_or c.args.row.now c.args.i +0) (omega arith), to_z-of_z c.ranges.k) refl

pub returns-else-i-row : goal.returns-else-i-row
unfolding bump
returns-else-i-row c = sym (set_out _ _ _ c.if-i-row.false)
