-- The cases of copying: no word between the candidates, a model that is too long, a model that is laid.
use Rattle.std.proofs.Common.{sym, ap, ◌∙◌, arith}
use Rattle.words.specs.Overlay.{overlay}
use Rattle.pairs.specs.Pair.{separates, ends_table}
use Rattle.pairs.proofs.Models.{table-first, second-length}
use Rattle.pairs.proofs.Copying.{without, stands, long, copied, is-first, is-second, first_count, second-count}
use Rattle.pairs.proofs.copy_model.Goals as goal

pub returns-then-d-ge-MODEL_WORDS : goal.returns-then-d-ge-MODEL_WORDS
returns-then-d-ge-MODEL_WORDS c =
    long c.args.candidate _ _ _ (c.words_before-d.ensures separates (λ w r p. p)) c.if-d-ws.false _ (first_count _ _ c.args.out.now _ (c.words_before-d.ensures separates (λ w r p. p)) c.if-d-ws.false c.if-candidate-eq1.true) (omega arith)

pub lay_first-requires : goal.lay_first-requires
lay_first-requires c =
    ((c.words_before-d.ensures separates (λ w r p. p)), rw (c.words_before-d.ensures separates (λ w r p. p)) (stands c.args.candidate _ c.args.out.now _ (c.words_before-d.ensures separates (λ w r p. p)) c.if-d-ws.false), omega arith)

pub returns-then-candidate-eq1 : goal.returns-then-candidate-eq1
returns-then-candidate-eq1 c =
    copied c.args.candidate _ _ _ (c.words_before-d.ensures separates (λ w r p. p)) c.if-d-ws.false _ (first_count _ _ c.args.out.now _ (c.words_before-d.ensures separates (λ w r p. p)) c.if-d-ws.false c.if-candidate-eq1.true) (omega arith) _ (c.lay_first.ensures ∙ ap (overlay _ 0) (sym (is-first _ _ c.args.out.now _ (c.words_before-d.ensures separates (λ w r p. p)) c.if-d-ws.false c.if-candidate-eq1.true)))

pub overflow_add-n : goal.overflow_add-n
overflow_add-n c =
    omega (arith, c.words_before-d.ensures separates (λ w r p. p), stands c.args.candidate c.args.ws.now c.args.out.now _ (c.words_before-d.ensures separates (λ w r p. p)) c.if-d-ws.false)

pub overflow_sub-n : goal.overflow_sub-n
overflow_sub-n c =
    omega (arith, stands c.args.candidate c.args.ws.now c.args.out.now _ (c.words_before-d.ensures separates (λ w r p. p)) c.if-d-ws.false, (c.words_before-d.ensures separates (λ w r p. p)))

pub overflow_add-n-2 : goal.overflow_add-n-2
overflow_add-n-2 c =
    omega (arith, stands c.args.candidate c.args.ws.now c.args.out.now _ (c.words_before-d.ensures separates (λ w r p. p)) c.if-d-ws.false, table-first c.args.ws.now, (c.words_before-d.ensures separates (λ w r p. p)), (c.words_before-t.ensures ends_table (λ w r p. p)))

pub returns-then-n-gt-MODEL_WORDS : goal.returns-then-n-gt-MODEL_WORDS
returns-then-n-gt-MODEL_WORDS c =
    long c.args.candidate _ _ _ (c.words_before-d.ensures separates (λ w r p. p)) c.if-d-ws.false _ (second-count c.args.candidate c.args.ws.now c.args.out.now _ (c.words_before-d.ensures separates (λ w r p. p)) c.if-d-ws.false c.if-candidate-eq1.false _ (c.words_before-t.ensures ends_table (λ w r p. p))) c.if-n-gt-MODEL_WORDS.true

pub lay_second-requires : goal.lay_second-requires
lay_second-requires c =
    ((c.words_before-d.ensures separates (λ w r p. p)), rw (c.words_before-d.ensures separates (λ w r p. p)) (stands c.args.candidate _ c.args.out.now _ (c.words_before-d.ensures separates (λ w r p. p)) c.if-d-ws.false), (c.words_before-t.ensures ends_table (λ w r p. p)), omega (arith, second-length c.args.ws.now, (c.words_before-d.ensures separates (λ w r p. p)), (c.words_before-t.ensures ends_table (λ w r p. p)), c.if-n-gt-MODEL_WORDS.false))

pub returns : goal.returns
returns c =
    copied c.args.candidate _ _ _ (c.words_before-d.ensures separates (λ w r p. p)) c.if-d-ws.false _ (second-count c.args.candidate c.args.ws.now c.args.out.now _ (c.words_before-d.ensures separates (λ w r p. p)) c.if-d-ws.false c.if-candidate-eq1.false _ (c.words_before-t.ensures ends_table (λ w r p. p))) c.if-n-gt-MODEL_WORDS.false _ (c.lay_second.ensures ∙ ap (overlay _ 0) (sym (is-second _ _ c.args.out.now _ (c.words_before-d.ensures separates (λ w r p. p)) c.if-d-ws.false c.if-candidate-eq1.false)))

pub returns-then-d-ws : goal.returns-then-d-ws
returns-then-d-ws c = without _ _ _ _ (c.words_before-d.ensures separates (λ w r p. p)) c.if-d-ws.true
