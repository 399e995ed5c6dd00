-- The first word, and if it is a lower bound the upper one.
use Rattle.std.proofs.Common.{sym, ◌∙◌, arith, eqb-true}
use Rattle.std.proofs.lemmas.Result.{err_from_is_err_and}
use borrow.Author.Tests.{eqb-false}
use Rattle.words.specs.Word.{kind}
use Rattle.words.proofs.Steps.{passed, refused}
use Rattle.models.specs.Reading.{fault_upper_in}
use Rattle.modelitems.proofs.Variable.{refused-first, pair, boolean}
use Rattle.modelitems.proofs.items.variable_at.Goals as goal

pub returns-in_err-next : goal.returns-in_err-next
returns-in_err-next c d e n =
    let p = err_from_is_err_and c.from_residual.result c.from_residual.ensures.1 in
    let q = refused _ _ c.over.ensures c.in_err-next.was in
    rw (p.1, p.2, q.1) (refused-first c.args.ws.now c.args.v c.args.at d (rw c.requires.1 at e) n _ (rw c.requires.1 at c.check_start.ensures) q.0)

pub over-requires-then-is : goal.over-requires-then-is
over-requires-then-is c = omega (arith, (passed _ _ c.over.ensures c.in_ok-next.was).1, c.requires.0.within, c.requires.0.few)

pub returns-then-is : goal.returns-then-is
unfolding fault_upper_in kind
returns-then-is c d e n =
    let q = passed _ _ c.over.ensures c.in_ok-next.was in
    rw (c.over-then-is.ensures, q.1)
    (pair c.args.ws.now c.args.v c.args.at d (rw c.requires.1 at e) n (rw c.requires.1 at (sym c.check_start.ensures ∙ q.0)) (rw c.requires.1 at (eqb-true _ 1 (sym c.is.ensures ∙ c.if-is.true)))
    _ (rw (c.requires.1, c.at.ensures, q.1) at c.check_upper.ensures))

pub returns : goal.returns
returns c d e n =
    let q = passed _ _ c.over.ensures c.in_ok-next.was in
    rw q.1 (boolean c.args.ws.now c.args.v c.args.at d (rw c.requires.1 at e) n (rw c.requires.1 at (sym c.check_start.ensures ∙ q.0)) (eqb-false _ 1 (rw c.requires.1 at (sym c.is.ensures ∙ c.if-is.false))))
