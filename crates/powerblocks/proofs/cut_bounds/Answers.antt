-- What is cut to ±2^27 is near 0.
use Rattle.arguments.proofs.Size.{read}
use Rattle.powerblocks.proofs.CutBounds.{near-cut}
use Rattle.powerblocks.proofs.cut_bounds.Goals as goal

pub new-requires : goal.new-requires
new-requires c =
    rw (read c.cut_to.type_inv c.cut_to.ensures, read c.cut_to-2.type_inv c.cut_to-2.ensures) (near-cut _, near-cut _)
