-- One number is put, or the list has none there.
use Rattle.std.proofs.Common.{arith, to_z-of_z, get_or}
use Rattle.integers.specs.Number.{+0}
use Rattle.integers.proofs.Fits.{back}
use Rattle.bittaking.proofs.Line.{put-taken, none-taken}
use Rattle.bittaking.proofs.take_at.Goals as goal

pub take-requires : goal.take-requires
take-requires c = rw (to_z-of_z c.ranges.k, to_z-of_z c.ranges.a) c.requires

pub returns-then-j-line : goal.returns-then-j-line
returns-then-j-line c =
    rw (back c.take.result c.take.type_inv)
    (put-taken (rw (to_z-of_z c.ranges.k, to_z-of_z c.ranges.a, back (get_or c.args.line.now c.args.j +0) (omega arith)) at c.take.ensures) c.if-j-line.true)

pub returns-else-j-line : goal.returns-else-j-line
returns-else-j-line c = none-taken c.if-j-line.false
