-- By the row's own bits, then by the kind of the head.
use Rattle.std.proofs.Common.{sym, ◌∙◌}
use Rattle.bitrows.proofs.Constant.{row_at_most, row-equal, row-product}
use Rattle.bitfilling.specs.Idle.{IdleRow}
use Rattle.bitfilling.proofs.holds_bits.Goals as goal

pub returns-then-is : goal.returns-then-is
returns-then-is c e q v =
    (c.overlap.ensures c.if-overlap.false q v, rw (row_at_most c.args.head c.args.args.now (sym c.is.ensures ∙ c.if-is.true), ← c.sum_terms.ensures.value) (c.holds_terms.ensures e q v))

pub returns-then-is-2 : goal.returns-then-is-2
unfolding IdleRow
returns-then-is-2 c e q v =
    (c.overlap.ensures c.if-overlap.false q v, rw (row-equal c.args.head c.args.args.now (sym c.is.ensures ∙ c.if-is.false) (sym c.is-2.ensures ∙ c.if-is-2.true), ← c.sum_terms-then-is-2.ensures.value) (c.holds_terms-then-is-2.ensures e q v))

pub returns : goal.returns
returns c e q v =
    (c.overlap.ensures c.if-overlap.false q v, rw (row-product c.args.head c.args.args.now (sym c.is.ensures ∙ c.if-is.false) (sym c.is-2.ensures ∙ c.if-is-2.false)) (c.holds_product.ensures e q v))
