use Rattle.std.proofs.Common.{sym, ◌∙◌}
use Rattle.std.proofs.lemmas.Result.{on_ok_weaker}
use Rattle.flatzinc.specs.Calls.{placed_all}
use Rattle.flatrewriting.proofs.ClauseLaws.{clause-put}
use Rattle.flatrewriting.proofs.clauses.put_clause.Goals as goal

pub returns : goal.returns
returns c =
    on_ok_weaker c.put_call.result
    (λ e. e ∙ clause-put (placed_all c.args.calls.now.items) c.args.positive.now c.args.negative.now c.in_ok-positive.positive.items c.in_ok-negative.negative.items
    (sym c.has_constant.ensures ∙ c.if-has_constant.false) (sym c.has_constant-else-has_constant.ensures ∙ c.if-has_constant-2.false) c.in_ok-positive.ensures c.in_ok-negative.ensures)
    c.put_call.ensures
