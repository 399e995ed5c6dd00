use Rattle.std.proofs.Common.{refl, map}
use Rattle.std.proofs.lemmas.Result.{err_from_is_err_and}
use Rattle.flatzinc.specs.Seen.{row, value}
use Rattle.flatzinc.specs.Calls.{placed_all, placed_call}
use Rattle.flatrewriting.proofs.Walks.{fails_as}
use Rattle.flatrewriting.proofs.Placing.{none-placed, same-placed}
use Rattle.flatrewriting.proofs.items.plain.Goals as goal

pub returns-in_err-arguments : goal.returns-in_err-arguments
returns-in_err-arguments c =
    let p = err_from_is_err_and c.from_residual.result c.from_residual.ensures.1 in
    rw (p.1, p.2) (fails_as c.in_err-arguments.field-0.0 _ _ (λ n. rw (none-placed (row c.args.code) (map value c.args.values.now) n) refl) c.in_err-arguments.ensures)

pub returns : goal.returns
unfolding placed_all placed_call
returns c =
    let s = same-placed (row c.args.code) (map value c.args.values.now) c.in_ok-arguments.arguments.items c.in_ok-arguments.ensures in
    (rw (c.in_ok-vec.ensures.items, s.1.0, s.1.1) refl, rw s.1.1 refl)
