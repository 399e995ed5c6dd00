use Rattle.std.proofs.Common.{◌∙◌}
use Rattle.bitlines.proofs.Dense.{lesser_is}
use Rattle.bitreading.proofs.Weighing.{begun, more, done}
use Rattle.bitreading.proofs.weigh.Goals as goal

pub loop-left-init : goal.loop-left-init
loop-left-init c = begun _ _ _

pub loop-left-preserved : goal.loop-left-preserved
loop-left-preserved c =
    rw (c.min-w.ensures ∙ lesser_is c.loop-left.weight c.loop-left.left, c.at.ensures) (more c.args.bits.now.fine c.loop-left-test.true c.loop-left.invariant)

pub returns-clause-value : goal.returns-clause-value
returns-clause-value c = (done c.loop-left-test.false c.loop-left.invariant).0
