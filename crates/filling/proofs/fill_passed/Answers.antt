-- The number of values, the room, then judge-model's answer, as in the definition.
use Rattle.std.proofs.Common.{◌≡◌, refl, sym, ◌∙◌, ◌++◌, ◌+◌, ◌≤◌, false, ℕ, arith, length}
use Rattle.std.proofs.lemmas.Result.{err_from_is_err_and}
use Rattle.words.specs.Answer.{Answer, is_holds, written}
use Rattle.words.specs.Variables.{variables}
use Rattle.words.proofs.Overlay.{length-overlay}
use Rattle.models.specs.JudgeModel.{judge_model}
use Rattle.rules.specs.Translation.{auxiliaries, picks}
use Rattle.sharing.proofs.Accepts.{passes-read}
use Rattle.sharing.proofs.Theorem.{few_in_all}
use Rattle.sharing.proofs.Judged.{judge_model_says}
use Rattle.checking.proofs.Answers.{clash}
use Rattle.filling.proofs.Answers.{Gives, handed-front, wrong-count, too_short, held, not-held}
use Rattle.filling.proofs.fill_passed.Goals.{After-judge_read}
use Rattle.filling.proofs.fill_passed.Goals as goal

-- as many values as variables, and room for them and the auxiliaries
many : (c : After-judge_read) → length c.args.values.now ≡ length (variables c.args.read.now.ws.now)
many c = c.if-values-n.false ∙ c.requires.0.0.seen.variables_counted

room : (c : After-judge_read) → length (variables c.args.read.now.ws.now) + length (auxiliaries c.args.read.now.ws.now) ≤ length c.args.out.now
room c = rw (c.requires.0.0.seen.variables_counted, c.requires.2) at c.if-out-n.false

-- judge-model's answer, where it is not "holds"
outside : (c : After-judge_read) (answer : Answer) → answer ≡ judge_model c.args.read.now.ws.now c.args.values.now → is_holds answer ≡ false → ((n : ℕ) → answer ≡ written n → ⊥) →
    Gives c.args.read.now.ws.now c.args.values.now c.args.out.now answer c.args.out.now
outside c = not-held c.args.read.now.ws.now c.requires.1 c.args.values.now c.args.out.now (many c) (room c)

pub returns-then-values-n : goal.returns-then-values-n
returns-then-values-n c =
    let h = wrong-count c.args.read.now.ws.now c.requires.1 c.args.values.now c.args.out.now (λ e. c.if-values-n.true (e ∙ sym c.requires.0.0.seen.variables_counted)) in
    record { answer = h.0; output = h.1.0; room = tt; front = tt; satisfied = h.1.1 }

pub overflow_add-n : goal.overflow_add-n
overflow_add-n c = record { fits = omega (arith, c.requires.0.0.seen.variables_counted, c.requires.2, few_in_all c.args.read.now.ws.now c.requires.1) }

pub returns-then-out-n : goal.returns-then-out-n
returns-then-out-n c =
    let h = too_short c.args.read.now.ws.now c.requires.1 c.args.values.now c.args.out.now (c.if-values-n.false ∙ c.requires.0.0.seen.variables_counted) (rw (c.requires.0.0.seen.variables_counted, c.requires.2) at c.if-out-n.true) in
    record { answer = h.0; output = h.1.0; room = tt; front = tt; satisfied = h.1.1 }

pub returns-in_err-verdict : goal.returns-in_err-verdict
unfolding is_holds
returns-in_err-verdict c =
    let p = err_from_is_err_and c.from_residual.result c.from_residual.ensures.1 in
    let h = outside (goal.at.returns-in_err-verdict c).After-judge_read _ (rw c.in_err-verdict.was at c.judge_read.ensures) refl (λ n e. clash (cc)) in
    rw (p.1, p.2) (record { answer = h.0; output = h.1.0; room = tt; front = tt; satisfied = h.1.1 })

pub write_filled-requires : goal.write_filled-requires
write_filled-requires c =
    (c.requires.0, c.requires.1, (judge_model_says c.args.read.now.ws.now (passes-read c.args.read.now.ws.now c.requires.1) c.args.values.now).0 (sym (rw c.in-Holds.is at c.in_ok-verdict.ensures)))

pub returns-in-Holds : goal.returns-in-Holds
returns-in-Holds c =
    let n = c.requires.0.0.seen.variables_counted in
    let j = (goal.at.returns-in-Holds c).After-judge_read in
    let h = held c.args.read.now.ws.now c.requires.1 c.args.values.now c.args.out.now (many j) (room j) (sym (rw c.in-Holds.is at c.in_ok-verdict.ensures)) in
    record {
      answer = rw (n, c.requires.2) h.0;
      output = c.write_filled.ensures ∙ h.1.0;
      room = rw c.write_filled.ensures (omega (arith, c.if-out-n.false, length-overlay c.args.out.now 0 (c.args.values.now ++ picks c.args.read.now.ws.now c.args.values.now)));
      front = rw (n, c.requires.2, c.write_filled.ensures) (handed-front c.args.read.now.ws.now c.requires.1 c.args.values.now (many j) c.args.out.now (room j));
      satisfied = rw (n, c.requires.2, c.write_filled.ensures) h.1.1;
    }

pub returns-in-OutOfBounds : goal.returns-in-OutOfBounds
unfolding is_holds
returns-in-OutOfBounds c =
    let h = outside (goal.at.returns-in-OutOfBounds c).After-judge_read _ (rw c.in-OutOfBounds.is at c.in_ok-verdict.ensures) refl (λ n e. clash (cc)) in
    record { answer = h.0; output = h.1.0; room = tt; front = tt; satisfied = h.1.1 }

pub returns-in-False : goal.returns-in-False
unfolding is_holds
returns-in-False c =
    let h = outside (goal.at.returns-in-False c).After-judge_read _ (rw c.in-False.is at c.in_ok-verdict.ensures) refl (λ n e. clash (cc)) in
    record { answer = h.0; output = h.1.0; room = tt; front = tt; satisfied = h.1.1 }
