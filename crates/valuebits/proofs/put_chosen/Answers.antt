use Rattle.valuebits.proofs.Choosing.{choosing_begun, choosing_more}
use Rattle.valuebits.proofs.put_chosen.Goals as goal

pub loop-i-init : goal.loop-i-init
loop-i-init c = choosing_begun _ _ _ _

pub loop-i-preserved : goal.loop-i-preserved
loop-i-preserved c = rw (c.put_taken-left.ensures.0, c.put_taken-left.ensures.1) (choosing_more c.loop-i-test.true c.loop-i.invariant)
