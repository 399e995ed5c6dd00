-- The two rows with the numbers of either code.
use Rattle.std.proofs.Common.{to_z-of_z}
use Rattle.arguments.proofs.Size.{read}
use Rattle.rules.specs.Rule.{zero_rows}
use Rattle.linearblocks.specs.Rows.{size_rows}
use Rattle.linearblocks.proofs.linear.write_zero.Goals as goal

pub returns-then-equal : goal.returns-then-equal
unfolding zero_rows size_rows
returns-then-equal c = rw c.if-equal.true (rw (read c.opposite-less.type_inv c.opposite-less.ensures.value, to_z-of_z c.ranges.w) at c.write_size.ensures)

pub returns-else-equal : goal.returns-else-equal
unfolding zero_rows size_rows
returns-else-equal c = rw c.if-equal.false (rw (read c.opposite-less.type_inv c.opposite-less.ensures.value, to_z-of_z c.ranges.w) at c.write_size-else-equal.ensures)
