-- The row that is printed for a product is its own.
use Rattle.rowsystems.specs.RowSystem.{variable_at}
use Rattle.sheetlines.proofs.Cells.{product-lines}
use Rattle.sheetlines.proofs.put_product.Goals as goal

pub returns-clause-text : goal.returns-clause-text
unfolding variable_at
returns-clause-text c =
    rw (← c.at.ensures, ← c.at-2.ensures, ← c.at-3.ensures, ← product-lines c.args.k c.at.result c.at-2.result c.at-3.result) (rw (c.bits.ensures, c.bits-2.ensures, c.bits-3.ensures) at c.put_sum.ensures.text)
