-- The answer of copying where it refuses; else the front of the list is the candidate's model, and judge-model's answer is its own.
use Rattle.std.proofs.Common.{◌≡◌, refl, ap, ◌∙◌, List, ℕ, ℤ}
use Rattle.std.proofs.lemmas.Result.{err_from_is_err_and}
use Rattle.models.specs.JudgeModel.{judge_model}
use Rattle.words.specs.Answer.{Answer}
use Rattle.pairs.specs.Calls.{pair_judge}
use Rattle.pairs.specs.Alone.{OtherWrote}
use Rattle.pairs.specs.FaultyTable.{RefusedByTable}
use Rattle.pairs.proofs.Independent.{same-judge}
use Rattle.pairs.proofs.Faulty as Faulty
use Rattle.pairs.proofs.Copying.{refusal-is, no-refusal}
use Rattle.pairs.proofs.Front.{front}
use Rattle.pairs.proofs.Long.{judge-refused, judge-copied}
use Rattle.pairs.proofs.pair_judge_model.Goals as goal

promise : (candidate : ℕ) (ws : List ℕ) (vs : List ℤ) {given : Answer} → given ≡ pair_judge candidate ws vs →
    record { answer : given ≡ pair_judge candidate ws vs; alone : (us : List ℕ) → OtherWrote candidate ws us → given ≡ pair_judge candidate us vs; faulty : RefusedByTable candidate ws given }
promise candidate ws vs a = record { answer = a; alone = λ us o. a ∙ same-judge o vs; faulty = λ some h. a ∙ Faulty.judge-refused candidate ws some h vs }

pub returns-in_err-words : goal.returns-in_err-words
returns-in_err-words c =
    let p = err_from_is_err_and c.from_residual.result c.from_residual.ensures.1 in
    let q = refusal-is (rw c.in_err-words.was at c.copy_model.ensures) in
    rw (p.1, p.2) (promise c.args.candidate c.args.ws.now c.args.values.now (q.0 ∙ judge-refused c.args.candidate c.args.ws.now c.args.values.now q.1))

pub returns : goal.returns
returns c =
    let k = rw c.in_ok-words.was at c.copy_model.ensures in
    let f = front k.model refl in
    promise c.args.candidate c.args.ws.now c.args.values.now (c.judge_model.ensures ∙ ap (λ (m : List ℕ). judge_model m c.args.values.now) f ∙ judge-copied c.args.candidate c.args.ws.now c.args.values.now (no-refusal k))
