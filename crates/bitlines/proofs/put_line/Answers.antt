use Rattle.integers.proofs.Fits.{back}
use Rattle.bitlines.proofs.Writing.{writing-begun, writing_more}
use Rattle.bitlines.proofs.put_line.Goals as goal

pub loop-d-preserved : goal.loop-d-preserved
loop-d-preserved c =
    writing_more c.loop-d-test.true c.loop-d.invariant (rw (back c.at_or.result c.at_or.type_inv, c.at_or.ensures) at c.put_entry-next.ensures)

pub loop-d-init : goal.loop-d-init
loop-d-init c = writing-begun _ _ _ _ _
