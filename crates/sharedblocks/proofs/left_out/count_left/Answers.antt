use Rattle.std.proofs.Common.{refl, sym, ◌∙◌, arith, ap₂, not, ◌+◌, w64}
use mir.Facts.{to_z_pos}
use Rattle.integers.specs.Lists.{list_of}
use Rattle.integers.proofs.Fits.{back}
use Rattle.integers.proofs.Booleans.{bit_le}
use Rattle.sharedblocks.specs.LeftOut.{left_count}
use Rattle.sharedblocks.proofs.LeftOut.{left-more}
use Rattle.sharedblocks.proofs.left_out.count_left.Goals as goal

pub loop-k-init : goal.loop-k-init
unfolding left_count list_of
loop-k-init c = (omega arith, refl)

pub loop-k-preserved : goal.loop-k-preserved
loop-k-preserved c =
    let e = rw (c.is_kept.ensures, back c.plus.result c.plus.type_inv, c.plus.ensures.value, to_z_pos w64 {n = c.loop-k.k} (omega arith)) at c.one_if-m.ensures in (
      omega (arith, c.loop-k.invariant.0, c.one_if-m.ensures, bit_le (not c.is_kept.result)),
      ap₂ ◌+◌ c.loop-k.invariant.1 e ∙ sym (left-more _ _ _ c.loop-k.k),
    )
