-- What is judged of the values comes first, over the words of the variables alone; then the constraints, as in the definition.
use Rattle.std.proofs.Common.{◌≡◌, refl, sym, ap, ◌∙◌, false, List, ℕ, ℤ, take, length-take-le, arith}
use Rattle.std.proofs.lemmas.Result.{err_from_is_err_and}
use Rattle.words.specs.Answer.{Answer, holds, is_holds}
use Rattle.words.specs.Faults.{said_of}
use Rattle.words.specs.Judge.{judge}
use Rattle.words.specs.Refusal.{accepted, count_fault}
use Rattle.words.specs.Variables.{variables}
use Rattle.words.specs.declared.answer.Verdict.{Verdict}
use Rattle.words.specs.declared.answer.Verdict.TheVariants.{Holds, OutOfBounds, False}
use Rattle.words.proofs.Answers.{first-answers}
use Rattle.words.proofs.Faulty.{fault-number}
use Rattle.variables.specs.Judged.{judged_then}
use Rattle.variables.proofs.After.{go_on, stop}
use Rattle.models.specs.JudgeModel.{judge_accepted, judge_model}
use Rattle.modelreading.specs.Seen.{Read, Seen, model_read}
use Rattle.modelreading.proofs.Heads.{front-heads, front-inside, front-variables}
use Rattle.modeljudge.proofs.judge_read.Goals.{In_ok-model}
use Rattle.modeljudge.proofs.judge_read.Goals as goal

-- what reading kept
kept : (c : In_ok-model) → Seen c.args.ws.now c.args.heads.now (model_read c.in_ok-model.model)
kept c = (rw c.in_ok-model.was at c.requires).seen refl

-- the judge of the values looks only at the variables
judged : (front ws : List ℕ) (vs : List ℤ) → variables front ≡ variables ws → (after : Answer) → judged_then accepted front vs after ≡ judged_then accepted ws vs after
unfolding count_fault
judged front ws vs e after = rw e

-- whatever it says but "holds" is the answer
outside : {ws hs : List ℕ} {r : Read} → Seen ws hs r → (vs : List ℤ) (said : Answer) → said ≡ judged_then accepted (take r.sources ws) vs holds → is_holds said ≡ false → said ≡ judge_model ws vs
unfolding judge judge_accepted judge_model
outside {ws} {hs} {r} s vs said q f =
    rw s.accepts (q ∙ stop accepted (take r.sources ws) vs (ap is_holds (sym q) ∙ f) _ ∙ judged (take r.sources ws) ws vs (front-variables s) _)

not-holds : (v : Verdict) → (v ≡ Holds → ⊥) → is_holds (said_of v) ≡ false
unfolding is_holds
not-holds Holds n = absurd (n refl)
not-holds (OutOfBounds i) n = refl
not-holds (False i) n = refl

pub returns-in_err-model : goal.returns-in_err-model
unfolding judge_model
returns-in_err-model c =
    let p = err_from_is_err_and c.from_residual.result c.from_residual.ensures.1 in
    let k = rw c.in_err-model.was at c.requires in
    rw (p.1, p.2, ← k.refusal) (first-answers _ _ (count_fault c.args.ws.now c.args.values.now) _ (fault-number _))

pub slice_bounds-judge_values-end : goal.slice_bounds-judge_values-end
slice_bounds-judge_values-end c = sym (length-take-le _ _ (front-inside (kept (goal.at.slice_bounds-judge_values-end c).In_ok-model)))

pub returns-in_err-outside : goal.returns-in_err-outside
unfolding is_holds
returns-in_err-outside c =
    let p = err_from_is_err_and c.from_residual-in_err-outside.result c.from_residual-in_err-outside.ensures.1 in
    rw (p.1, p.2) (outside (kept (goal.at.returns-in_err-outside c).In_ok-model) c.args.values.now _ c.in_err-outside.ensures refl)

pub first_false-requires : goal.first_false-requires
unfolding is_holds
first_false-requires c =
    let k = kept (goal.at.first_false-requires c).In_ok-model in
    (front-heads c.args.heads.now k.heads (omega (arith, k.heads.room, c.told-heads)), (go_on _ _ _ (rw c.in-Holds.is at (ap is_holds (sym c.in_ok-outside.ensures)))).0)

pub returns-in-Holds : goal.returns-in-Holds
unfolding is_holds judge judge_accepted judge_model
returns-in-Holds c =
    let k = kept (goal.at.returns-in-Holds c).In_ok-model in
    rw k.accepts (c.first_false.ensures ∙ (go_on _ _ _ (rw c.in-Holds.is at (ap is_holds (sym c.in_ok-outside.ensures)))).1 _ ∙ judged _ _ _ (front-variables k) _)

pub returns-in_default : goal.returns-in_default
returns-in_default c = outside (kept (goal.at.returns-in_default c).In_ok-model) c.args.values.now _ c.in_ok-outside.ensures (not-holds _ c.in_default.not-Holds)
