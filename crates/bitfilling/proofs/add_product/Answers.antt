-- The four parts of the product's terms, one after another; each grows the row by at most 2^55.
use Rattle.std.proofs.Common.{◌∙◌}
use Rattle.bittables.specs.BitTables.{firsts}
use Rattle.bitfilling.proofs.Filling.{product-added}
use Rattle.bitfilling.proofs.add_product.Goals as goal

pub returns : goal.returns
returns c =
    c.add_crossed.ensures
    ∙ rw (c.add_less_lower-2.ensures.sum, c.add_less_lower.ensures.sum, c.add_variable.ensures.sum, c.row_variable.ensures, c.row_variable-f.ensures, c.row_variable-g.ensures)
    (product-added c.args.row.now c.args.table.now.domains.now (firsts c.args.table.now.bits.now) c.args.first _ _ _)
