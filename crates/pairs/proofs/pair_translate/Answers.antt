-- The answer of copying where it refuses; else the front of the list is the candidate's model, and translate's answer, output and shared solutions are its own.
use Rattle.std.proofs.Common.{refl, ap, ◌∙◌, List, ℕ, length}
use Rattle.std.proofs.lemmas.Result.{err_from_is_err_and}
use Rattle.rules.specs.Translate.{translate, translated}
use Rattle.checking.proofs.Answers.{clash}
use Rattle.pairs.proofs.Independent.{same-translate, same-translated}
use Rattle.pairs.proofs.Faulty as Faulty
use Rattle.pairs.proofs.Copying.{refusal-is, no-refusal}
use Rattle.pairs.proofs.Front.{front}
use Rattle.pairs.proofs.Long.{translate-refused, translate-copied}
use Rattle.pairs.proofs.pair_translate.Goals as goal

pub returns-in_err-words : goal.returns-in_err-words
returns-in_err-words c =
    let p = err_from_is_err_and c.from_residual.result c.from_residual.ensures.1 in
    let q = refusal-is (rw c.in_err-words.was at c.copy_model.ensures) in
    let s = translate-refused c.args.candidate c.args.ws.now c.args.out.now q.1 in
    let a = q.0 ∙ s.0 in
    rw (p.1, p.2) (record {
      answer = a;
      output = s.1;
      room = tt;
      front = tt;
      shared = λ m e. clash (cc);
      alone = λ us o. (a ∙ same-translate o (length c.args.out.now), s.1 ∙ same-translated o c.args.out.now);
      faulty = λ some h. a ∙ Faulty.translate-refused c.args.candidate c.args.ws.now some h (length c.args.out.now);
    })

pub returns : goal.returns
returns c =
    let k = rw c.in_ok-words.was at c.copy_model.ensures in
    let f = front k.model refl in
    let s = translate-copied c.args.candidate c.args.ws.now c.args.out.now (no-refusal k) in
    let a = c.translate.ensures.answer ∙ ap (λ (m : List ℕ). translate m (length c.args.out.now)) f ∙ s.0 in
    let b = c.translate.ensures.output ∙ ap (λ (m : List ℕ). translated m c.args.out.now) f ∙ s.1 in
    record {
      answer = a;
      output = b;
      room = c.translate.ensures.room;
      front = rw f at c.translate.ensures.front;
      shared = λ n g. rw f at (c.translate.ensures.shared n g);
      alone = λ us o. (a ∙ same-translate o (length c.args.out.now), b ∙ same-translated o c.args.out.now);
      faulty = λ some h. a ∙ Faulty.translate-refused c.args.candidate c.args.ws.now some h (length c.args.out.now);
    }
