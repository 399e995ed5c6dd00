use Rattle.std.proofs.Common.{arith, w64}
use mir.Facts.{to_z_pos}
use Rattle.integers.proofs.Fits.{back}
use Rattle.laying.proofs.Written.{writing-none, writing-more}
use Rattle.sharedblocks.proofs.left_out.left_bits.Goals as goal

pub loop-k-init : goal.loop-k-init
loop-k-init c = writing-none _ _

pub loop-k-preserved : goal.loop-k-preserved
loop-k-preserved c = writing-more c.loop-k.invariant (rw (c.is_kept.ensures, back c.plus.result c.plus.type_inv, c.plus.ensures.value, to_z_pos w64 {n = c.loop-k.k} (omega arith)) at c.left_term.ensures)
