use Rattle.std.proofs.Common.{◌∙◌}
use Rattle.bitlines.proofs.Dense.{lesser_is}
use Rattle.valuebits.proofs.Choosing.{listing_begun, listing_more, listing_done}
use Rattle.valuebits.proofs.list_weights.Goals as goal

pub loop-left-init : goal.loop-left-init
loop-left-init c = listing_begun _ _

pub loop-left-preserved : goal.loop-left-preserved
loop-left-preserved c =
    rw (c.put.ensures, c.min-w.ensures ∙ lesser_is c.loop-left.weight c.loop-left.left) (listing_more c.loop-left-test.true c.loop-left.invariant)

pub returns : goal.returns
returns c = listing_done c.loop-left-test.false c.loop-left.invariant
