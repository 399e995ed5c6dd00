use Rattle.std.proofs.Common.{◌≡◌, ap, ◌∙◌, ◌<◌, min, arith, pos, w64, to_z, of_z, to_z-of_z}
use mir.Facts.{to_z_pos}
use Rattle.integers.specs.Number.{◌⊗◌}
use Rattle.integers.proofs.Fits.{back}
use Rattle.bitlines.proofs.Dense.{lesser_is, begun, more, done, weight-fits}
use Rattle.bitlines.proofs.add_weights.Goals.{After-min-w, After-times}
use Rattle.bitlines.proofs.add_weights.Goals as goal

-- the weight, as a signed number
as-pos : (c : After-min-w) → to_z w64 c.min-w.result ≡ pos (min c.loop-left.weight c.loop-left.left)
as-pos c =
    let e : c.min-w.result ≡ min c.loop-left.weight c.loop-left.left = c.min-w.ensures ∙ lesser_is _ _ in
    let h : c.min-w.result < 9223372036854775808 = omega (arith, e, c.loop-left.invariant.grown c.loop-left-test.true, c.requires.1) in
    to_z_pos w64 {n = c.min-w.result} h ∙ ap pos e

product : (c : After-times) → to_z w64 (of_z w64 c.times.result) ≡ to_z w64 (of_z w64 c.args.k) ⊗ pos (min c.loop-left.weight c.loop-left.left)
product c = back c.times.result c.times.type_inv ∙ c.times.ensures.value ∙ ap (λ w. to_z w64 (of_z w64 c.args.k) ⊗ w) (as-pos c.before.before)

pub loop-left-init : goal.loop-left-init
loop-left-init c =
    rw (to_z-of_z c.ranges.k) (begun c.args.k c.args.row.now c.args.first c.args.width c.requires.2)

pub loop-left-preserved : goal.loop-left-preserved
loop-left-preserved c =
    rw (c.add_at.ensures, c.min-w.ensures ∙ lesser_is c.loop-left.weight c.loop-left.left, product (goal.at.loop-left-preserved c).After-times) (more c.loop-left.invariant c.loop-left-test.true)

pub add_at-requires : goal.add_at-requires
add_at-requires c = rw (product c) (weight-fits c.loop-left.invariant).1

pub returns : goal.returns
returns c = rw (to_z-of_z c.ranges.k) at (done c.loop-left-test.false c.loop-left.invariant)
