use Rattle.std.proofs.Common.{◌≡◌, ap, ◌∙◌, ◌<◌, min, arith, pos, w64, to_z, of_z}
use mir.Facts.{to_z_pos}
use Rattle.integers.specs.Number.{neg}
use Rattle.integers.proofs.Fits.{back, mul-le}
use Rattle.bitlines.proofs.Dense.{lesser_is}
use Rattle.bitrows.proofs.Cross.{crossing_begun, crossing_more, crossing_done, crossing_fits}
use Rattle.bitrows.proofs.add_products.Goals.{After-min-w, After-opposite}
use Rattle.bitrows.proofs.add_products.Goals as goal

-- the weight, as a signed number, and its opposite
least : (c : After-min-w) → c.min-w.result ≡ min c.loop-left.weight c.loop-left.left
least c = c.min-w.ensures ∙ lesser_is c.loop-left.weight c.loop-left.left

as-pos : (c : After-min-w) → (c.min-w.result < 9223372036854775808) × (to_z w64 c.min-w.result ≡ pos (min c.loop-left.weight c.loop-left.left))
as-pos c =
    let e = least c in
    let h : c.min-w.result < 9223372036854775808 = omega (arith, e, c.loop-left.invariant.sum c.loop-left-test.true, c.requires.1) in
    (h, to_z_pos w64 {n = c.min-w.result} h ∙ ap pos e)

less : (c : After-opposite) → to_z w64 (of_z w64 c.opposite.result) ≡ neg (pos (min c.loop-left.weight c.loop-left.left))
less c = back c.opposite.result c.opposite.type_inv ∙ c.opposite.ensures.value ∙ ap neg (as-pos c.before.before).1

pub loop-left-init : goal.loop-left-init
loop-left-init c =
    crossing_begun c.args.row.now c.args.first c.args.a c.args.b (omega (arith, mul-le c.requires.1 c.requires.2, c.requires.3))

pub add_weights-at-requires : goal.add_weights-at-requires
add_weights-at-requires c =
    (omega (arith, c.loop-left.invariant.place, c.requires.0, mul-le c.requires.1 c.requires.2), omega (arith, c.requires.2), rw (less c) (crossing_fits c.loop-left.invariant))

pub loop-left-preserved : goal.loop-left-preserved
loop-left-preserved c =
    rw (c.add_weights-at.ensures.1, c.add_weights-at.ensures.0, c.min-w.ensures ∙ lesser_is c.loop-left.weight c.loop-left.left, less (goal.at.loop-left-preserved c).After-opposite) (crossing_more c.loop-left.invariant c.loop-left-test.true)

pub returns : goal.returns
returns c = crossing_done c.loop-left-test.false c.loop-left.invariant
