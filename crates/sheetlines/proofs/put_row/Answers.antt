-- The row by its head: each kind with its sign.
use Rattle.std.proofs.Common.{arith}
use Rattle.rowsystems.proofs.Sizes.{count-few}
use Rattle.sheetlines.proofs.put_row.Goals as goal

pub put_sum-requires : goal.put_sum-requires
put_sum-requires c = (c.requires.0, c.requires.1, omega (arith, c.term_count-n.ensures, count-few c.bits.result))

pub put_sum-requires-then-is-2 : goal.put_sum-requires-then-is-2
put_sum-requires-then-is-2 c = (c.requires.0, c.requires.1, omega (arith, c.term_count-n.ensures, count-few c.bits.result))
