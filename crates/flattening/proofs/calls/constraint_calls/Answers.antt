use Rattle.std.proofs.Common.{refl}
use Rattle.flattening.specs.Flattened.{constraint_items}
use Rattle.flatzinc.specs.Calls.{placed_all}
use Rattle.flattening.proofs.GrownCalls.{grown-constraints}
use Rattle.flattening.proofs.calls.constraint_calls.Goals as goal

pub loop-constraint-init : goal.loop-constraint-init
unfolding placed_all constraint_items
loop-constraint-init c = rw c.new-calls.ensures.items (refl, refl)

pub loop-constraint-preserved : goal.loop-constraint-preserved
loop-constraint-preserved c = grown-constraints _ _ _ c.args.constraints.now c.loop-constraint.constraint-index c.constraint-item.result c.loop-constraint-test.true c.in_ok-append.ensures.items c.loop-constraint.invariant (rw (← c.constraint-item.is) c.in_ok-more.ensures)
