use Rattle.std.proofs.Common.{sym, ◌∙◌}
use Rattle.integers.proofs.Fits.{back}
use Rattle.bitenergy.proofs.Row.{sum-counts, product-counts}
use Rattle.bitenergy.proofs.row_energy.Goals as goal

pub returns-then-starts_sum : goal.returns-then-starts_sum
returns-then-starts_sum c =
    sum-counts c.args.bits.now c.args.table.now c.args.first c.args.head c.args.args.now (sym (rw c.bits.ensures at c.starts_sum.ensures) ∙ c.if-starts_sum.true) c.row_sum.ensures.value (rw (back c.row_sum.result c.row_sum.type_inv) at c.square_capped-square.ensures)

pub returns : goal.returns
returns c =
    product-counts c.args.bits.now c.args.table.now c.args.first c.args.head c.args.args.now (sym (rw c.bits.ensures at c.starts_sum.ensures) ∙ c.if-starts_sum.false) c.requires.0 c.row_sum.ensures.value (rw (back c.row_sum.result c.row_sum.type_inv) at c.square_capped-square.ensures) c.product_pairs.ensures.value c.add_capped.ensures
