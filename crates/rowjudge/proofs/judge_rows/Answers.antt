-- Too many words, else the judge from the first word on, then the number of values.
use Rattle.std.proofs.Common.{◌≡◌, sym, ◌∙◌, true, arith, List, ℕ, ◌≤◌, lt-ltb, le-ltb, length}
use Rattle.std.proofs.lemmas.Result.{err_from_is_err_and}
use Rattle.words.specs.Answer.{◌else_answer◌}
use Rattle.words.specs.Judge.{judge}
use Rattle.words.specs.Limit as Limit
use Rattle.words.specs.Refusal.{◌else_refuse◌}
use Rattle.words.specs.Variables.{variables}
use Rattle.words.proofs.Answers.{first-answers, right-count, wrong-count}
use Rattle.words.proofs.Faulty.{fault-number}
use Rattle.rowsystems.specs.JudgeRows.{judge_rows, judge_accepted}
use Rattle.rowsystems.specs.Reading.{read_rows}
use Rattle.rowreading.specs.Item.{start_due}
use Rattle.rowreading.specs.Onward.{onward}
use Rattle.rowjudge.specs.Judging.{judged_on}
use Rattle.rowjudge.proofs.judge_rows.Goals.{In_ok-judged}
use Rattle.rowjudge.proofs.judge_rows.Goals as goal

pub returns-then-ws-gt-ROW_WORDS : goal.returns-then-ws-gt-ROW_WORDS
unfolding judge_rows read_rows ◌else_refuse◌ ◌else_answer◌
returns-then-ws-gt-ROW_WORDS c = rw (lt-ltb _ _ c.if-ws-gt-ROW_WORDS.true)

-- what reading all the words finds, where they are not too many
read : (ws : List ℕ) → length ws ≤ Limit.row_words → onward (start_due true) 0 0 ws ≡ read_rows ws
unfolding read_rows onward start_due
read ws h = rw (le-ltb _ _ h)

pub returns-in_err-judged : goal.returns-in_err-judged
unfolding judge_rows
returns-in_err-judged c =
    let p = err_from_is_err_and c.from_residual.result c.from_residual.ensures.1 in
    rw (p.1, p.2, ← read c.args.ws.now c.if-ws-gt-ROW_WORDS.false, ← c.in_err-judged.ensures.reads) (first-answers _ _ _ _ (fault-number _))

-- all variables are counted
all : (c : In_ok-judged) → c.in_ok-judged.judged.variables ≡ length (variables c.args.ws.now)
all c = omega (arith, c.in_ok-judged.ensures.counts)

pub returns-then-values-judged : goal.returns-then-values-judged
unfolding judge_rows ◌else_refuse◌
returns-then-values-judged c =
    rw (← read c.args.ws.now c.if-ws-gt-ROW_WORDS.false, ← c.in_ok-judged.ensures.reads)
    (wrong-count c.args.ws.now c.args.values.now _ (λ e. c.if-values-judged.true (e ∙ sym (all (goal.at.returns-then-values-judged c).In_ok-judged))))

pub returns : goal.returns
unfolding judge_rows judge_accepted judge judged_on ◌else_refuse◌
returns c =
    let e = c.if-values-judged.false ∙ all (goal.at.returns c).In_ok-judged in
    rw (← read c.args.ws.now c.if-ws-gt-ROW_WORDS.false, ← c.in_ok-judged.ensures.reads)
    (c.in_ok-judged.ensures.says (omega (arith, c.if-values-judged.false)) ∙ right-count c.args.ws.now c.args.values.now _ e)
