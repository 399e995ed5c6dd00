-- A number right in its own length.
use Rattle.std.proofs.Common.{arith}
use Rattle.decimals.proofs.Ahead.{alone}
use Rattle.decimals.proofs.Columns.{right-self}
use Rattle.decimals.proofs.Page.decimal.Goals as goal

pub right-requires : goal.right-requires
right-requires c = (omega (arith, c.requires, c.digit_count.ensures), rw (alone, c.digit_count.ensures) (omega arith))

pub returns-clause-text : goal.returns-clause-text
returns-clause-text c = rw (c.digit_count.ensures, alone, right-self) at c.right.ensures.text
