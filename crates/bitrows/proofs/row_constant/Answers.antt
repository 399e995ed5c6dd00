-- The constant by the kind of the head.
use Rattle.std.proofs.Common.{sym, ◌∙◌}
use Rattle.arguments.proofs.Size.{read}
use Rattle.bitforms.specs.OverBits.{over}
use Rattle.bitforms.specs.BitRow.{product_whole, bit_row}
use Rattle.bitrows.proofs.Constant.{row_at_most, row-equal, row-product}
use Rattle.bitrows.proofs.row_constant.Goals as goal

pub returns-then-is : goal.returns-then-is
unfolding bit_row over
returns-then-is g c Ds firsts first p =
    rw (row_at_most c.args.head c.args.args.now (sym c.is.ensures ∙ c.if-is.true), ← c.sum_terms.ensures.value) (read c.terms_sum.type_inv (c.terms_sum.ensures.sums _ p))

pub returns-then-is-2 : goal.returns-then-is-2
unfolding bit_row over
returns-then-is-2 g c Ds firsts first p =
    rw (row-equal c.args.head c.args.args.now (sym c.is.ensures ∙ c.if-is.false) (sym c.is-2.ensures ∙ c.if-is-2.true), ← c.sum_terms-then-is-2.ensures.value) (read c.terms_sum-then-is-2.type_inv (c.terms_sum-then-is-2.ensures.sums _ p))

pub returns : goal.returns
unfolding bit_row product_whole
returns g c Ds firsts first p =
    rw (row-product c.args.head c.args.args.now (sym c.is.ensures ∙ c.if-is.false) (sym c.is-2.ensures ∙ c.if-is-2.false)) (read c.product_constant.type_inv (c.product_constant.ensures _ p))
