-- A refusal of the reading is check's. The words of the variables are the front of the words, so that the bounds that are kept are the model's; the counted uses say which are shared.
use Rattle.std.proofs.Common.{sym, ap, ◌∙◌, refl, arith, length, length-take-le}
use lib.ListN.{length-replicate}
use Rattle.std.proofs.lemmas.Result.{err_from_is_err_and}
use Rattle.integers.specs.Number.{+0}
use Rattle.integers.specs.Bounds.{◌to◌}
use Rattle.words.proofs.Faulty.{fault-number}
use Rattle.models.proofs.Accepted.{few_words}
use Rattle.modelreading.specs.Seen.{Seen, model_read}
use Rattle.modelreading.proofs.Heads.{front-inside, head-inside}
use Rattle.encodings.specs.Uses.{shared_by}
use Rattle.checking.specs.ModelBounds.{ModelBounds}
use Rattle.checking.proofs.Answers.{read-refused}
use Rattle.checking.proofs.Kept.{kept, first-heads, if-ok}
use Rattle.checking.proofs.Uses.{uses-shared}
use Rattle.checking.proofs.check_model.Goals.{After-count_uses, In_ok-model}
use Rattle.checking.proofs.check_model.Goals as goal

seen : (c : In_ok-model) → Seen c.args.read.now.ws.now c.read_model.new.heads (model_read c.in_ok-model.model)
seen c = (rw c.in_ok-model.was at c.read_model.ensures).seen refl

knows : (c : After-count_uses) → ModelBounds c.args.read.now.ws.now c.read_model.new.heads c.in_ok-model.model c.keep_bounds.new.domains c.count_uses.new.uses
knows c =
    let k = rw c.in_ok-model.was at c.read_model.ensures in
    record {
      kept = k;
      seen = k.seen refl;
      same = kept (k.seen refl) (rw c.requires.1 at c.keep_bounds.ensures.kept);
      shares = ap shared_by c.count_uses.ensures ∙ uses-shared c.args.read.now.ws.now (k.seen refl).accepts;
    }

pub slice_bounds-keep_bounds-end : goal.slice_bounds-keep_bounds-end
slice_bounds-keep_bounds-end c = sym (length-take-le _ _ (front-inside (seen (goal.at.slice_bounds-keep_bounds-end c).In_ok-model)))

pub count_uses-requires : goal.count_uses-requires
count_uses-requires c =
    let v = seen (goal.at.count_uses-requires c).In_ok-model in
    (few_words c.args.read.now.ws.now v.accepts, first-heads _ v.heads, c.requires.2)

pub model_sums-requires : goal.model_sums-requires
model_sums-requires c =
    let v = seen (goal.at.model_sums-requires c).In_ok-model in
    (omega (arith, few_words c.args.read.now.ws.now v.accepts), v.heads.room, λ j l. head-inside v.heads j l, ap length c.requires.3 ∙ length-replicate 256 (+0 to +0))

pub returns-in_err-model : goal.returns-in_err-model
returns-in_err-model c =
    let p = err_from_is_err_and c.from_residual.result c.from_residual.ensures.1 in
    let k = rw c.in_err-model.was at c.read_model.ensures in
    rw (p.1, p.2) (record { answer = read-refused c.args.read.now.ws.now k.refusal (fault-number _); words = refl; lists = tt })

pub check_read-requires : goal.check_read-requires
check_read-requires c = (knows (goal.at.check_read-requires c).After-count_uses, c.model_sums.ensures)

pub returns-clause-lists : goal.returns-clause-lists
returns-clause-lists c = if-ok c.check_read.result (knows (goal.at.returns-clause-lists c).After-count_uses, c.model_sums.ensures)
