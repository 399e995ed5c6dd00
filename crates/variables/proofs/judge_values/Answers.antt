-- The refusal, the number of values, then the bounds, as in the definition.
use Rattle.std.proofs.Common.{sym, ◌∙◌}
use Rattle.std.proofs.lemmas.Result.{err_from_is_err_and}
use Rattle.words.specs.Refusal.{◌else_refuse◌}
use Rattle.words.proofs.Answers.{first-answers, right-count, wrong-count}
use Rattle.words.proofs.Faulty.{fault-number}
use Rattle.variables.proofs.judge_values.Goals as goal

pub returns-in_err-read : goal.returns-in_err-read
returns-in_err-read c =
    let p = err_from_is_err_and c.from_residual.result c.from_residual.ensures.1 in
    rw (p.1, p.2, c.in_err-read.was) (first-answers _ _ _ _ (fault-number _))

pub returns-then-values-count_variables : goal.returns-then-values-count_variables
unfolding ◌else_refuse◌
returns-then-values-count_variables c =
    rw c.in_ok-read.was (wrong-count c.args.ws.now c.args.values.now _ (λ e. c.if-values-count_variables.true (e ∙ sym c.count_variables.ensures)))

pub returns : goal.returns
unfolding ◌else_refuse◌
returns c =
    rw c.in_ok-read.was (c.first_out_of_bounds.ensures ∙ right-count c.args.ws.now c.args.values.now _ (c.if-values-count_variables.false ∙ c.count_variables.ensures))
