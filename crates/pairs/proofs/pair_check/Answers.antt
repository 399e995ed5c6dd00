-- The answer of copying where it refuses; else the front of the list is the candidate's model, and check's answer is its own.
use Rattle.std.proofs.Common.{◌≡◌, refl, ap, ◌∙◌, List, ℕ}
use Rattle.std.proofs.lemmas.Result.{err_from_is_err_and}
use Rattle.rules.specs.Check.{check}
use Rattle.words.specs.Answer.{Answer}
use Rattle.pairs.specs.Calls.{pair_check}
use Rattle.pairs.specs.Alone.{OtherWrote}
use Rattle.pairs.specs.FaultyTable.{RefusedByTable}
use Rattle.pairs.proofs.Independent.{same-check}
use Rattle.pairs.proofs.Faulty as Faulty
use Rattle.pairs.proofs.Copying.{refusal-is, no-refusal}
use Rattle.pairs.proofs.Front.{front}
use Rattle.pairs.proofs.Long.{check-refused, check-copied}
use Rattle.pairs.proofs.pair_check.Goals as goal

promise : (candidate : ℕ) (ws : List ℕ) {given : Answer} → given ≡ pair_check candidate ws →
    record { answer : given ≡ pair_check candidate ws; alone : (us : List ℕ) → OtherWrote candidate ws us → given ≡ pair_check candidate us; faulty : RefusedByTable candidate ws given }
promise candidate ws a = record { answer = a; alone = λ us o. a ∙ same-check o; faulty = λ some h. a ∙ Faulty.check-refused candidate ws some h }

pub returns-in_err-words : goal.returns-in_err-words
returns-in_err-words c =
    let p = err_from_is_err_and c.from_residual.result c.from_residual.ensures.1 in
    let q = refusal-is (rw c.in_err-words.was at c.copy_model.ensures) in
    rw (p.1, p.2) (promise c.args.candidate c.args.ws.now (q.0 ∙ check-refused c.args.candidate c.args.ws.now q.1))

pub returns : goal.returns
returns c =
    let k = rw c.in_ok-words.was at c.copy_model.ensures in
    let f = front k.model refl in
    promise c.args.candidate c.args.ws.now (c.check.ensures ∙ ap check f ∙ check-copied c.args.candidate c.args.ws.now (no-refusal k))
