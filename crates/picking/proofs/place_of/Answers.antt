-- The difference to the first number is the place.
use Rattle.std.proofs.Common.{to_z-of_z}
use Rattle.integers.proofs.Fits.{back}
use Rattle.integers.proofs.Tests.{says-lt, not-below}
use Rattle.picking.proofs.Labels.{label_at, label-none}
use Rattle.picking.proofs.place_of.Goals as goal

pub returns-then-v-first : goal.returns-then-v-first
returns-then-v-first c = label-none c.args.v c.args.first c.args.n ((says-lt _ _).0 (rw (to_z-of_z c.ranges.v, to_z-of_z c.ranges.first) at c.if-v-first.true))

pub returns : goal.returns
returns c =
    rw (c.count_of.ensures.value, back c.minus.result c.minus.type_inv, c.minus.ensures.value, to_z-of_z c.ranges.v, to_z-of_z c.ranges.first) (label_at c.args.v c.args.first c.args.n (not-below _ _ (rw (to_z-of_z c.ranges.v, to_z-of_z c.ranges.first) at c.if-v-first.false)))
