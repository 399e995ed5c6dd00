use Rattle.valuebits.proofs.Variables.{encoding-begun, encoding-more}
use Rattle.valuebits.proofs.put_variables.Goals as goal

pub loop-v-init : goal.loop-v-init
loop-v-init c = encoding-begun _ _ _ _

pub loop-v-preserved : goal.loop-v-preserved
loop-v-preserved c = encoding-more c.loop-v-test.true c.loop-v.invariant c.put_variable-at.ensures.laid c.put_variable-at.ensures.few
