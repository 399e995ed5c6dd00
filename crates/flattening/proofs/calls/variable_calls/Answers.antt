use Rattle.std.proofs.Common.{refl}
use Rattle.flattening.specs.Flattened.{variable_items}
use Rattle.flatzinc.specs.Calls.{placed_all}
use Rattle.flattening.proofs.GrownCalls.{grown-variables}
use Rattle.flattening.proofs.calls.variable_calls.Goals as goal

pub loop-number-init : goal.loop-number-init
unfolding placed_all variable_items
loop-number-init c = rw c.new-calls.ensures.items refl

pub loop-number-preserved : goal.loop-number-preserved
loop-number-preserved c = grown-variables _ _ _ c.args.variables.now c.loop-number.number c.index-variables-number.result c.loop-number-test.true c.in_ok-append.ensures.items c.loop-number.invariant (rw (← c.index-variables-number.is) c.in_ok-more.ensures)
