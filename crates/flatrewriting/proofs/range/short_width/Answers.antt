use Rattle.std.proofs.Common.{refl, to_z-of_z}
use Rattle.integers.specs.Bounds.{width}
use Rattle.integers.specs.Number.{◌⊖◌}
use Rattle.integers.proofs.Tests.{says-lt}
use Rattle.flatrewriting.proofs.Ranges.{fits_short, too-long, none_between, some-between, at_most}
use Rattle.flatrewriting.proofs.range.short_width.Goals as goal

pub returns-then-hi-lo : goal.returns-then-hi-lo
unfolding width
returns-then-hi-lo c = rw (none_between c.args.lo c.args.hi ((says-lt c.args.hi c.args.lo).0 (rw (to_z-of_z c.ranges.hi, to_z-of_z c.ranges.lo) at c.if-hi-lo.true))) refl

pub returns-then-gap-lt-LIST_LENGTH : goal.returns-then-gap-lt-LIST_LENGTH
unfolding width ◌⊖◌
returns-then-gap-lt-LIST_LENGTH c =
    fits_short _ _ _
    (some-between c.args.lo c.args.hi (at_most c.args.hi c.args.lo (rw (to_z-of_z c.ranges.hi, to_z-of_z c.ranges.lo) at c.if-hi-lo.false)))
    (rw (to_z-of_z c.ranges.hi, to_z-of_z c.ranges.lo) at c.abs_diff-gap.ensures) c.if-gap-lt-LIST_LENGTH.true

pub returns : goal.returns
unfolding width ◌⊖◌
returns c =
    too-long _ _ _
    (some-between c.args.lo c.args.hi (at_most c.args.hi c.args.lo (rw (to_z-of_z c.ranges.hi, to_z-of_z c.ranges.lo) at c.if-hi-lo.false)))
    (rw (to_z-of_z c.ranges.hi, to_z-of_z c.ranges.lo) at c.abs_diff-gap.ensures) c.if-gap-lt-LIST_LENGTH.false
