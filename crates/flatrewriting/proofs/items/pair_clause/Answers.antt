use Rattle.std.proofs.Common.{refl, ◌∙◌}
use Rattle.std.proofs.lemmas.Result.{err_from_is_err_and}
use Rattle.flatzinc.specs.Calls.{placed_all}
use Rattle.flatrewriting.specs.Rewritten.{clause_by}
use Rattle.flatrewriting.proofs.Walks.{fails_as}
use Rattle.flatrewriting.proofs.items.pair_clause.Goals as goal

pub returns-in_err-positive : goal.returns-in_err-positive
unfolding clause_by
returns-in_err-positive c =
    let p = err_from_is_err_and c.from_residual.result c.from_residual.ensures.1 in rw (p.1, p.2) (fails_as c.in_err-positive.field-0.0 _ _ (λ n. rw n refl) c.in_err-positive.ensures)

pub returns-in_err-negative : goal.returns-in_err-negative
unfolding clause_by
returns-in_err-negative c =
    let p = err_from_is_err_and c.from_residual-in_err-negative.result c.from_residual-in_err-negative.ensures.1 in
    rw (p.1, p.2) (fails_as c.in_err-negative.field-0.0 _ _ (λ n. rw (c.in_ok-positive.ensures, n) refl) c.in_err-negative.ensures)

pub returns : goal.returns
unfolding clause_by placed_all
returns c = (
  c.in_ok-put_clause.ensures ∙ rw (c.new-calls.ensures.items, c.deref.ensures.value, c.deref-2.ensures.value, c.in_ok-positive.ensures, c.in_ok-negative.ensures) refl,
  rw (c.in_ok-positive.ensures, c.in_ok-negative.ensures) refl,
)
