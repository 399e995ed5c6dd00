use Rattle.bitrows.proofs.Pairs.{with-none, with-more}
use Rattle.bitrows.proofs.add_pairs_with.Goals as goal

pub loop-b-init : goal.loop-b-init
loop-b-init c = with-none _ _ _ _ _

pub loop-b-preserved : goal.loop-b-preserved
loop-b-preserved c = rw c.add_pair.ensures (with-more _ _ _ _ _ c.loop-b.invariant)
