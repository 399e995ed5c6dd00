-- The answer of copying where it refuses; else the front of the list is the candidate's model, and what fill answers and hands over is its own.
use Rattle.std.proofs.Common.{refl, ap, ◌∙◌, List, ℕ, length}
use Rattle.std.proofs.lemmas.Result.{err_from_is_err_and}
use Rattle.rules.specs.Fill.{fill, filled}
use Rattle.checking.proofs.Answers.{clash}
use Rattle.pairs.proofs.Independent.{same-fill, same-filled}
use Rattle.pairs.proofs.Faulty as Faulty
use Rattle.pairs.proofs.Copying.{refusal-is, no-refusal}
use Rattle.pairs.proofs.Front.{front}
use Rattle.pairs.proofs.Long.{fill-refused, fill-copied, none_passes}
use Rattle.pairs.proofs.pair_fill.Goals as goal

pub returns-in_err-words : goal.returns-in_err-words
returns-in_err-words c =
    let p = err_from_is_err_and c.from_residual.result c.from_residual.ensures.1 in
    let q = refusal-is (rw c.in_err-words.was at c.copy_model.ensures) in
    let s = fill-refused c.args.candidate c.args.ws.now c.args.values.now c.args.out.now q.1 in
    let a = q.0 ∙ s.0 in
    rw (p.1, p.2) (record {
      answer = a;
      output = s.1;
      room = tt;
      front = tt;
      alone = λ us o. (a ∙ same-fill o c.args.values.now (length c.args.out.now), s.1 ∙ same-filled o c.args.values.now c.args.out.now);
      faulty = λ some h. a ∙ Faulty.fill-refused c.args.candidate c.args.ws.now some h c.args.values.now (length c.args.out.now);
      satisfied = λ m e. clash (cc);
      completes = λ some passes. absurd (none_passes c.args.candidate c.args.ws.now q.1 some passes);
    })

pub returns : goal.returns
returns c =
    let k = rw c.in_ok-words.was at c.copy_model.ensures in
    let f = front k.model refl in
    let s = fill-copied c.args.candidate c.args.ws.now c.args.values.now c.args.out.now (no-refusal k) in
    let a = c.fill.ensures.answer ∙ ap (λ (m : List ℕ). fill m c.args.values.now (length c.args.out.now)) f ∙ s.0 in
    let b = c.fill.ensures.output ∙ ap (λ (m : List ℕ). filled m c.args.values.now c.args.out.now) f ∙ s.1 in
    record {
      answer = a;
      output = b;
      room = c.fill.ensures.room;
      front = rw f at c.fill.ensures.front;
      alone = λ us o. (a ∙ same-fill o c.args.values.now (length c.args.out.now), b ∙ same-filled o c.args.values.now c.args.out.now);
      faulty = λ some h. a ∙ Faulty.fill-refused c.args.candidate c.args.ws.now some h c.args.values.now (length c.args.out.now);
      satisfied = λ n g. rw f at (c.fill.ensures.satisfied n g);
      completes = λ some. rw f at c.fill.ensures.completes;
    }
