use Rattle.std.proofs.Common.{◌∙◌}
use Rattle.bitlines.proofs.Dense.{lesser_is}
use Rattle.bitenergy.proofs.Crossed.{crossed-begun, crossed-more, crossed-done}
use Rattle.bitenergy.proofs.weigh_products.Goals as goal

pub loop-left-init : goal.loop-left-init
loop-left-init c = crossed-begun _ _ _ _

pub loop-left-preserved : goal.loop-left-preserved
loop-left-preserved c =
    rw (c.min-w.ensures ∙ lesser_is c.loop-left.weight c.loop-left.left)
    (crossed-more c.loop-left-test.true c.weight_count-n.ensures.value c.weight_count-n.ensures.few (c.weigh.ensures.value, c.weigh.ensures.size) c.loop-left.invariant)

pub returns-clause-value : goal.returns-clause-value
returns-clause-value c = (crossed-done c.loop-left-test.false c.loop-left.invariant).0
