use Rattle.std.proofs.Common.{◌≡◌, ◌∙◌, ◌+◌, arith, get_or, rules}
use Rattle.models.specs.Model.{headed}
use Rattle.rules.specs.Shared.{choice, encodes, encoded_after}
use Rattle.integers.specs.Bounds.{bounds_in}
use Rattle.encodings.specs.Uses.{shared_by}
use Rattle.checking.specs.Walk.{Costs}
use Rattle.checking.proofs.Kept.{few-sources, few-constraints, few-variables, none_left, head_at, summed_at}
use Rattle.encodings.proofs.Record.{placed_record}
use Rattle.std.proofs.lemmas.Result.{err_from_is_err_and}
use Rattle.checking.proofs.Costs.{placed_costs, placed_fault, counted_cost}
use Rattle.checking.proofs.CheckWalk.{begun, more, stop, done, all-checked}
use Rattle.checking.proofs.check_read.Goals.{After-cost_of, After-record_encoding}
use Rattle.checking.proofs.check_read.Goals as goal

-- what it costs
costs : (c : After-cost_of) →
    let r = c.args.read.now in
    let l = c.loop-k in
    Costs (bounds_in r.domains) (shared_by r.uses) (r.model.variables + l.auxiliaries) l.encoded (headed r.ws.now (get_or r.heads l.k 0)) c.cost_of.result
costs c =
    let r = c.args.read.now in
    placed_costs (bounds_in r.domains) (shared_by r.uses) (headed r.ws.now (get_or r.heads c.loop-k.k 0)) _ c.loop-k.encoded _
    (rw (c.constraint-constraint.ensures.code, c.constraint-constraint.ensures.arguments) at c.cost_of.ensures)

-- the record after it
recorded : (c : After-record_encoding) →
    let r = c.args.read.now in
    let l = c.loop-k in
    c.record_encoding.new.encoded ≡ encoded_after (shared_by r.uses) (r.model.variables + l.auxiliaries) l.encoded (encodes (choice (headed r.ws.now (get_or r.heads l.k 0))))
recorded c =
    let r = c.args.read.now in
    placed_record (shared_by r.uses) (r.model.variables + c.loop-k.auxiliaries) c.loop-k.encoded (headed r.ws.now (get_or r.heads c.loop-k.k 0)) (rw (c.constraint-constraint.ensures.code, c.constraint-constraint.ensures.arguments) at c.record_encoding.ensures)

pub loop-k-init : goal.loop-k-init
loop-k-init c = begun _ _ _ _ _ (few-variables c.requires.0)

pub invariant_of-context-clause-recorded : goal.invariant_of-context-clause-recorded
invariant_of-context-clause-recorded c = c.loop-k.invariant.recorded

pub invariant_of-context-clause-small : goal.invariant_of-context-clause-small
invariant_of-context-clause-small c = omega (arith, c.loop-k.invariant.room)

pub cost_of-requires : goal.cost_of-requires
cost_of-requires c =
    rw (c.constraint-constraint.ensures.code, c.constraint-constraint.ensures.arguments, c.sum.ensures) (summed_at c.requires.0 c.loop-k.k c.loop-k-test.true c.args.read.now.sums c.requires.1)

pub returns-in_err-cost : goal.returns-in_err-cost
returns-in_err-cost c =
    let p = err_from_is_err_and c.from_residual.result c.from_residual.ensures.1 in
    let f = placed_fault _ (get_or c.args.read.now.heads c.loop-k.k 0) c.cost_of.result c.map_err.result c.map_err.ensures.cases (λ f y q. search rules) (costs (goal.at.returns-in_err-cost c).After-cost_of) c.in_err-cost.was in
    rw (p.1, p.2, f.1) (stop c.loop-k.invariant (head_at c.requires.0 c.loop-k.k c.loop-k-test.true) f.0 ∙ all-checked c.requires.0)

pub loop-k-preserved : goal.loop-k-preserved
loop-k-preserved c =
    more c.loop-k.invariant (head_at c.requires.0 c.loop-k.k c.loop-k-test.true) (counted_cost _ c.cost_of.result c.map_err.result c.map_err.ensures.cases (costs (goal.at.loop-k-preserved c).After-cost_of) c.in_ok-cost.was) (recorded (goal.at.loop-k-preserved c).After-record_encoding)

pub returns : goal.returns
returns c =
    let e : c.args.read.now.model.constraints ≡ c.loop-k.k = omega (arith, c.loop-k-test.false) in
    rw e (done c.loop-k.invariant (none_left c.requires.0 c.loop-k-test.false) ∙ all-checked c.requires.0)

pub overflow_add-words : goal.overflow_add-words
overflow_add-words c = omega (arith, few-sources c.requires.0)

pub overflow_add-rows : goal.overflow_add-rows
overflow_add-rows c =
    omega (arith, few-sources c.requires.0, few-constraints c.requires.0, c.loop-k.invariant.small, c.loop-k-test.true, (counted_cost _ c.cost_of.result c.map_err.result c.map_err.ensures.cases (costs (goal.at.overflow_add-rows c).After-cost_of) c.in_ok-cost.was).small)

pub overflow_add-words-in-loop-k : goal.overflow_add-words-in-loop-k
overflow_add-words-in-loop-k c =
    omega (arith, few-sources c.requires.0, few-constraints c.requires.0, c.loop-k.invariant.small, c.loop-k-test.true, (counted_cost _ c.cost_of.result c.map_err.result c.map_err.ensures.cases (costs (goal.at.overflow_add-words-in-loop-k c).After-cost_of) c.in_ok-cost.was).small)
