-- The sum by the kind of the head.
use Rattle.std.proofs.Common.{sym, ◌∙◌}
use Rattle.arguments.proofs.Size.{read}
use Rattle.integers.specs.Bounds.{bounds_in}
use Rattle.bitforms.specs.BitRow.{bit_row}
use Rattle.bitforms.proofs.Sums.{over-value}
use Rattle.bitforms.proofs.Sound.{slack_value}
use Rattle.bittables.specs.BitTables.{firsts, encoding_by}
use Rattle.bitreading.specs.BitsGiven.{bits_in}
use Rattle.bitrows.proofs.Constant.{row_at_most, row-equal, row-product}
use Rattle.bitenergy.proofs.row_sum.Goals as goal

pub returns-then-is-clause-value : goal.returns-then-is-clause-value
returns-then-is-clause-value c =
    let t = c.args.table.now in
    read c.slacked_sum.type_inv c.slacked_sum.ensures.value
    ∙ rw (row_at_most c.args.head c.args.args.now (sym c.is.ensures ∙ c.if-is.true), ← c.sum_terms.ensures.value)
    (sym (slack_value (bounds_in t.domains.now) (encoding_by t.domains.now (firsts t.bits.now)) (bits_in c.args.bits.now.bytes.now) c.args.first _ _))

pub returns-then-is-2-clause-value : goal.returns-then-is-2-clause-value
unfolding bit_row
returns-then-is-2-clause-value c =
    let t = c.args.table.now in
    read c.sum_at.type_inv c.sum_at.ensures.value
    ∙ rw (row-equal c.args.head c.args.args.now (sym c.is.ensures ∙ c.if-is.false) (sym c.is-2.ensures ∙ c.if-is-2.true), ← c.sum_terms-then-is-2.ensures.value)
    (sym (over-value (bits_in c.args.bits.now.bytes.now) (encoding_by t.domains.now (firsts t.bits.now)) _ _))

pub returns-clause-value : goal.returns-clause-value
unfolding bit_row
returns-clause-value c =
    rw (row-product c.args.head c.args.args.now (sym c.is.ensures ∙ c.if-is.false) (sym c.is-2.ensures ∙ c.if-is-2.false)) (read c.product_sum.type_inv c.product_sum.ensures.value)
