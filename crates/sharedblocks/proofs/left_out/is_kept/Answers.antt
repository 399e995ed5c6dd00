-- The places of the list, or the members of the set.
use Rattle.std.proofs.Common.{to_z-of_z, lt-ltb, le-ltb}
use Rattle.sharedblocks.specs.LeftOut.{keeps}
use Rattle.sharedblocks.proofs.left_out.is_kept.Goals as goal

pub returns-then-number : goal.returns-then-number
unfolding keeps
returns-then-number c = rw (lt-ltb _ _ (rw (c.number.ensures, c.number-2.ensures) at c.if-number.true), c.is_place.ensures, c.size_at.ensures.value, to_z-of_z c.ranges.v)

pub returns : goal.returns
unfolding keeps
returns c = rw (le-ltb _ _ (rw (c.number.ensures, c.number-2.ensures) at c.if-number.false), c.is_member.ensures, to_z-of_z c.ranges.v)
