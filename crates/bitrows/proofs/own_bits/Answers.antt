-- The slack's weights, none, or the pairs of the factors' bits.
use Rattle.std.proofs.Common.{refl, sym, ap, ap₂, ◌∙◌, ◌*◌, length}
use Rattle.bitforms.specs.Weights.{weights}
use Rattle.bitforms.specs.BitRow.{slack_weights, bit_row}
use Rattle.bitrows.proofs.Constant.{row_at_most, row-equal, row-product, own-product}
use Rattle.bitrows.proofs.own_bits.Goals as goal

pub returns-then-is-clause-value : goal.returns-then-is-clause-value
unfolding bit_row slack_weights
returns-then-is-clause-value c firsts first =
    rw (row_at_most c.args.head c.args.args.now (sym c.is.ensures ∙ c.if-is.true), ← c.sum_terms.ensures.value) (c.weight_count.ensures.value ∙ ap (λ w. length (weights w)) c.slack_of.ensures.value)

pub returns-then-is-2-clause-value : goal.returns-then-is-2-clause-value
unfolding bit_row
returns-then-is-2-clause-value c firsts first = rw (row-equal c.args.head c.args.args.now (sym c.is.ensures ∙ c.if-is.false) (sym c.is-2.ensures ∙ c.if-is-2.true)) refl

pub returns-clause-value : goal.returns-clause-value
unfolding bit_row
returns-clause-value c firsts first =
    rw (row-product c.args.head c.args.args.now (sym c.is.ensures ∙ c.if-is.false) (sym c.is-2.ensures ∙ c.if-is-2.false)) (ap₂ ◌*◌ (rw c.row_variable.ensures at c.count_at.ensures.value) (rw c.row_variable-2.ensures at c.count_at-2.ensures.value) ∙ sym (own-product c.args.domains.now firsts first _ _))
