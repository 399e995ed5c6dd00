-- A refusal of check stands; else what comes after the check.
use Rattle.std.proofs.Common.{◌∙◌}
use Rattle.std.proofs.lemmas.Result.{err_from_is_err_and}
use Rattle.checking.proofs.Answers.{counted}
use Rattle.reasons.proofs.Reasons.{true_of}
use Rattle.reasoning.proofs.Whole.{stands}
use Rattle.reasoning.proofs.reason.Goals as goal

pub returns-in_err-counts : goal.returns-in_err-counts
returns-in_err-counts c =
    let p = err_from_is_err_and c.from_residual.result c.from_residual.ensures.1 in
    rw (p.1, p.2) (record { answer = stands c.args.ws.now c.args.values.now (rw c.of-read.ensures.words at c.in_err-counts.ensures.answer); behind = tt })

pub reason_passed-requires : goal.reason_passed-requires
reason_passed-requires c =
    let e = c.check_model.ensures.words ∙ c.of-read.ensures.words in
    let p = counted c.args.ws.now (rw c.of-read.ensures.words at c.in_ok-counts.ensures.answer) in
    (c.in_ok-counts.ensures.lists, rw e p.0, rw e p.2)

pub returns : goal.returns
returns c =
    let a = rw (c.check_model.ensures.words ∙ c.of-read.ensures.words) at c.reason_passed.ensures in
    let p = counted c.args.ws.now (rw c.of-read.ensures.words at c.in_ok-counts.ensures.answer) in
    record { answer = a; behind = true_of c.args.ws.now c.args.values.now p.0 a }
