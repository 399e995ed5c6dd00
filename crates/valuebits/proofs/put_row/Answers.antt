-- The own bits by the kind of the head.
use Rattle.std.proofs.Common.{sym, ◌∙◌}
use Rattle.words.proofs.LaidThen.{laid_none}
use Rattle.valuebits.proofs.Rows.{own_at_most, own-equal, own-product}
use Rattle.valuebits.proofs.Variables.{relaid}
use Rattle.valuebits.proofs.put_row.Goals as goal

pub returns-then-is-clause-laid : goal.returns-then-is-clause-laid
returns-then-is-clause-laid c =
    relaid (own_at_most c.args.domains.now c.args.values.now.list.now c.args.head c.args.args.now (sym c.is.ensures ∙ c.if-is.true) c.sum_terms-n.ensures.value c.slack_of.ensures.value c.slack_at.ensures) c.put_number.ensures.laid

pub returns-then-is-2-clause-laid : goal.returns-then-is-2-clause-laid
returns-then-is-2-clause-laid c =
    relaid (own-equal c.args.domains.now c.args.values.now.list.now c.args.head c.args.args.now (sym c.is.ensures ∙ c.if-is.false) (sym c.is-2.ensures ∙ c.if-is-2.true)) laid_none

pub returns-clause-laid : goal.returns-clause-laid
returns-clause-laid c =
    relaid (own-product c.args.domains.now c.args.values.now.list.now c.args.head c.args.args.now (sym c.is.ensures ∙ c.if-is.false) (sym c.is-2.ensures ∙ c.if-is-2.false)) c.put_product.ensures.laid
