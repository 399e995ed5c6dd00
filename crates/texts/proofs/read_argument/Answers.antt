-- The second of parallel lists, and every other list.
use Rattle.std.proofs.Common.{sym, ◌∙◌}
use Rattle.std.proofs.lemmas.Result.{err_from_is_err_and}
use Rattle.texts.proofs.Opening.{reads-counted, fails-counted, reads-second, fails-second}
use Rattle.texts.proofs.read_argument.Goals as goal

pub returns-in_err-stop-clause-list : goal.returns-in_err-stop-clause-list
returns-in_err-stop-clause-list c =
    let p = err_from_is_err_and c.from_residual.result c.from_residual.ensures.1 in
    rw (p.1, p.2) (fails-second c.args.text.now c.args.list c.args.opening c.requires.opens (sym c.is_second.ensures ∙ c.if-is_second.true) _ c.in_err-stop.ensures.list)

pub returns-then-is_second-clause-list : goal.returns-then-is_second-clause-list
returns-then-is_second-clause-list c =
    let h = c.in_ok-stop.ensures.list in
    reads-second c.args.text.now c.args.list c.args.opening c.requires.opens (sym c.is_second.ensures ∙ c.if-is_second.true) h.0 h.1

pub returns-in_err-stop-2-clause-list : goal.returns-in_err-stop-2-clause-list
returns-in_err-stop-2-clause-list c =
    let p = err_from_is_err_and c.from_residual-in_err-stop-2.result c.from_residual-in_err-stop-2.ensures.1 in
    rw (p.1, p.2) (fails-counted c.args.text.now c.args.list c.args.opening c.requires.opens (sym c.is_second.ensures ∙ c.if-is_second.false) _ c.in_err-stop-2.ensures.list)

pub returns-clause-list : goal.returns-clause-list
returns-clause-list c = reads-counted c.args.text.now c.args.list c.args.opening c.requires.opens (sym c.is_second.ensures ∙ c.if-is_second.false) c.in_ok-stop-2.ensures.list
