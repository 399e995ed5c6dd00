-- A refusal of check stands; else what comes after the check.
use Rattle.std.proofs.Common.{◌∙◌}
use Rattle.std.proofs.lemmas.Result.{err_from_is_err_and}
use Rattle.checking.proofs.Answers.{counted}
use Rattle.filling.proofs.Answers.{hands-over}
use Rattle.filling.proofs.Promise.{stands}
use Rattle.filling.proofs.fill.Goals as goal

pub returns-in_err-counts : goal.returns-in_err-counts
returns-in_err-counts c =
    let p = err_from_is_err_and c.from_residual.result c.from_residual.ensures.1 in
    let h = stands c.args.ws.now c.args.values.now c.args.out.now (rw c.of-read.ensures.words at c.in_err-counts.ensures.answer) in
    rw (p.1, p.2) (record { answer = h.0; output = h.1.0; room = tt; front = tt; satisfied = h.1.1; completes = hands-over c.args.ws.now c.args.values.now c.args.out.now h })

pub fill_passed-requires : goal.fill_passed-requires
fill_passed-requires c =
    let e = c.check_model.ensures.words ∙ c.of-read.ensures.words in
    let p = counted c.args.ws.now (rw c.of-read.ensures.words at c.in_ok-counts.ensures.answer) in
    (c.in_ok-counts.ensures.lists, rw e p.0, rw e p.2)

pub returns : goal.returns
returns c =
    let f = rw (c.check_model.ensures.words ∙ c.of-read.ensures.words) at c.fill_passed.ensures in
    record { answer = f.answer; output = f.output; room = f.room; front = f.front; satisfied = f.satisfied; completes = hands-over c.args.ws.now c.args.values.now c.args.out.now (f.answer, (f.output, f.satisfied)) }
