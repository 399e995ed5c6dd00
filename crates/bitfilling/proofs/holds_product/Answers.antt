-- By the three variables.
use Rattle.bitfilling.specs.Idle.{IdleRow}
use Rattle.bitfilling.proofs.holds_product.Goals as goal

pub returns : goal.returns
unfolding IdleRow
returns c e q v = (
  rw c.row_variable.ensures at (c.holds_variable.ensures c.if-holds_variable.false q v),
  rw c.row_variable-2.ensures at (c.holds_variable-2.ensures c.if-holds_variable-2.false q v),
  rw c.row_variable-3.ensures at (c.holds_variable-3.ensures e q v),
)
