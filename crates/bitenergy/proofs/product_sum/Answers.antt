use Rattle.std.proofs.Common.{◌∙◌, ◌<◌, arith, w64}
use mir.Facts.{to_z_pos}
use Rattle.arguments.proofs.Size.{read}
use Rattle.bitenergy.proofs.Whole.{product-sum}
use Rattle.bitenergy.proofs.product_sum.Goals as goal

pub returns-clause-value : goal.returns-clause-value
returns-clause-value c =
    let T = c.weigh_products-products.result in
    let h : T < 9223372036854775808 = omega (arith, c.weigh_products-products.ensures.size) in
    let products = rw (c.span_at.ensures.value, c.span_at-2.ensures.value) at c.weigh_products-products.ensures.value in
    read c.minus.type_inv c.minus.ensures.value
    ∙ rw (read c.read_variable.type_inv c.read_variable.ensures.value, read c.plus.type_inv c.plus.ensures.value, read c.factors_at-less.type_inv c.factors_at-less.ensures.value, to_z_pos w64 {n = T} h, ← c.row_variable.ensures, ← c.row_variable-f.ensures, ← c.row_variable-g.ensures)
    (product-sum c.args.bits.now c.args.table.now c.args.first c.row_variable.result c.row_variable-f.result c.row_variable-g.result T products)
