-- The refusal, then what judge-model answers of the values after none.
use Rattle.std.proofs.Common.{◌∙◌}
use Rattle.words.specs.Refusal.{◌else_refuse◌, count_fault}
use Rattle.words.proofs.Answers.{first-answers, second-answers}
use Rattle.numbered.proofs.refusals.judge_values.Goals as goal

pub returns-then-read-ne-NO_FAULT : goal.returns-then-read-ne-NO_FAULT
returns-then-read-ne-NO_FAULT c =
    first-answers c.args.read.number c.args.read.place (count_fault c.args.ws.now c.args.values.now) _ c.if-read-ne-NO_FAULT.true

pub returns-in-Ok : goal.returns-in-Ok
unfolding ◌else_refuse◌
returns-in-Ok c =
    c.in-Ok.ensures ∙ second-answers c.args.read.number c.args.read.place (count_fault c.args.ws.now c.args.values.now) _ c.if-read-ne-NO_FAULT.false

pub returns-in-Err : goal.returns-in-Err
unfolding ◌else_refuse◌
returns-in-Err c =
    rw c.number.ensures (c.in-Err.ensures ∙ second-answers c.args.read.number c.args.read.place (count_fault c.args.ws.now c.args.values.now) _ c.if-read-ne-NO_FAULT.false)
