-- A refusal of check stands; else what comes after it.
use Rattle.std.proofs.Common.{◌∙◌}
use Rattle.std.proofs.lemmas.Result.{err_from_is_err_and}
use Rattle.checking.proofs.Answers.{counted}
use Rattle.solutions.proofs.All.{stands}
use Rattle.solutions.proofs.Listed.{all_of, front_of}
use Rattle.solutions.proofs.solutions.Goals as goal

pub returns-in_err-check_model : goal.returns-in_err-check_model
returns-in_err-check_model c =
    let p = err_from_is_err_and c.from_residual.result c.from_residual.ensures.1 in
    let h = stands c.args.ws.now c.args.out.now (rw c.of-read.ensures.words at c.in_err-check_model.ensures.answer) in
    rw (p.1, p.2) (record { answer = h.0; output = h.1; room = tt; front = tt; all = all_of c.args.ws.now c.args.out.now h.0 h.1 })

pub solutions_passed-requires : goal.solutions_passed-requires
solutions_passed-requires c =
    let e = c.check_model.ensures.words ∙ c.of-read.ensures.words in
    let p = counted c.args.ws.now (rw c.of-read.ensures.words at c.in_ok-check_model.ensures.answer) in
    (rw e p.0, c.in_ok-check_model.ensures.lists)

pub returns : goal.returns
returns c =
    let f = rw (c.check_model.ensures.words ∙ c.of-read.ensures.words) at c.solutions_passed.ensures in
    let w = front_of c.args.ws.now c.args.out.now _ c.solutions_passed.result f.answer f.output in
    record { answer = f.answer; output = f.output; room = w.0; front = w.1; all = all_of c.args.ws.now c.args.out.now f.answer f.output }
