-- By its own bits and the three variables.
use Rattle.bitfilling.specs.Idle.{IdleRow}
use Rattle.bitwriting.proofs.is_bit_of_product.Goals as goal

pub returns : goal.returns
unfolding IdleRow
returns c e = (
  c.is_among.ensures c.if-is_among.false,
  (
    rw c.row_variable-3.ensures at (c.is_bit_of-3.ensures e),
    rw c.row_variable.ensures at (c.is_bit_of.ensures c.if-is_bit_of.false),
    rw c.row_variable-2.ensures at (c.is_bit_of-2.ensures c.if-is_bit_of-2.false),
  ),
)
