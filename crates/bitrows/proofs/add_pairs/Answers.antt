use Rattle.bitrows.proofs.Pairs.{gridding_begun, gridding_more}
use Rattle.bitrows.proofs.add_pairs.Goals as goal

pub loop-a-preserved : goal.loop-a-preserved
loop-a-preserved c = gridding_more c.add_pairs_with.ensures c.loop-a.invariant

pub loop-a-init : goal.loop-a-init
loop-a-init c = gridding_begun _ _ _ _ _ _
