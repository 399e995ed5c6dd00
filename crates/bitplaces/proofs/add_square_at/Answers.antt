-- The bit where it meets itself, then the bits after it at their places.
use Rattle.std.proofs.Common.{◌≡◌, refl, ◌∙◌, ◌*◌, ◌≤◌, arith, nat_abs, get_or, w64, to_z, of_z, to_z-of_z}
use Rattle.integers.specs.Number.{◌⊗◌, +0, +2}
use Rattle.integers.proofs.Fits.{back}
use Rattle.bitlines.specs.Sizes as Size
use Rattle.bitlines.specs.Dense.{bump, peak}
use Rattle.bitlines.specs.Line.{square_at}
use Rattle.bitlines.proofs.Dense.{peak-at}
use Rattle.bitlines.proofs.Line.{twice-product}
use Rattle.bitplaces.proofs.Placed.{placed-begun, placed-more, twice-small, first-only, square-placed}
use Rattle.bitplaces.proofs.add_square_at.Goals.{After-add_square, After-times}
use Rattle.bitplaces.proofs.add_square_at.Goals as goal

-- the entry of the bit itself is added
began : (c : After-add_square) → c.add_square.new.line ≡ bump c.args.line.now c.args.i (square_at c.args.row.now c.args.c c.args.i c.args.i)
began c = c.add_square.ensures.sum ∙ rw (to_z-of_z c.ranges.c) (first-only c.args.row.now c.args.line.now c.args.c c.args.i)

-- what is added at the place
product : (c : After-times) → to_z w64 (of_z w64 c.times.result) ≡ +2 ⊗ get_or c.args.row.now c.args.i +0 ⊗ get_or c.args.row.now (get_or c.args.places.now c.loop-y.y 0) +0
product c =
    let j = get_or c.args.places.now c.loop-y.y 0 in
    back c.times.result c.times.type_inv ∙ c.times.ensures.value
    ∙ rw (
      back c.times-twice.result c.times-twice.type_inv,
      c.times-twice.ensures.value,
      back (get_or c.args.row.now c.args.i +0) (omega (arith, peak-at c.args.row.now c.args.i, c.requires.small)),
      back (get_or c.args.row.now j +0) (omega (arith, peak-at c.args.row.now j, c.requires.small)),
    ) refl

product-small : (c : After-times) → nat_abs (+2 ⊗ get_or c.args.row.now c.args.i +0 ⊗ get_or c.args.row.now (get_or c.args.places.now c.loop-y.y 0) +0) ≤ Size.largest_entry
product-small c =
    let j = get_or c.args.places.now c.loop-y.y 0 in
    twice-small (get_or c.args.row.now c.args.i +0) (get_or c.args.row.now j +0) (omega (arith, peak-at c.args.row.now c.args.i, c.requires.small)) (omega (arith, peak-at c.args.row.now j, c.requires.small))

-- the line stays far below a machine number's end
line-small : (c : After-times) → peak c.loop-y.line ≤ 2 * Size.sums
line-small c = omega (arith, c.loop-y.invariant.small, c.add_square.ensures.small, c.requires.small, c.requires.places, c.loop-y-test.true)

pub times-twice-requires : goal.times-twice-requires
times-twice-requires c =
    rw (back (get_or c.args.row.now c.args.i +0) (omega (arith, peak-at c.args.row.now c.args.i, c.requires.small)))
    (omega (arith, peak-at c.args.row.now c.args.i, c.requires.small))

pub loop-y-init : goal.loop-y-init
loop-y-init c = placed-begun c.add_square.new.line _ c.requires.places.0

pub times-requires : goal.times-requires
times-requires c =
    let j = get_or c.args.places.now c.loop-y.y 0 in
    rw (
      back c.times-twice.result c.times-twice.type_inv,
      c.times-twice.ensures.value,
      back (get_or c.args.row.now c.args.i +0) (omega (arith, peak-at c.args.row.now c.args.i, c.requires.small)),
      back (get_or c.args.row.now j +0) (omega (arith, peak-at c.args.row.now j, c.requires.small)),
    )
    (twice-product (get_or c.args.row.now c.args.i +0) (get_or c.args.row.now j +0) (omega (arith, peak-at c.args.row.now c.args.i, c.requires.small)) (omega (arith, peak-at c.args.row.now j, c.requires.small)))

pub plus-requires : goal.plus-requires
plus-requires c =
    let j = get_or c.args.places.now c.loop-y.y 0 in
    rw (product c, back (get_or c.loop-y.line j +0) (omega (arith, peak-at c.loop-y.line j, line-small c)))
    (omega (arith, peak-at c.loop-y.line j, line-small c, product-small c))

pub bounds-line-j : goal.bounds-line-j
bounds-line-j c =
    omega (arith, c.requires.places.0.inside c.loop-y.y c.loop-y.auto.y c.loop-y-test.true, c.loop-y.auto.line, c.add_square.auto.line, c.requires.sized)

pub loop-y-preserved : goal.loop-y-preserved
unfolding bump
loop-y-preserved c =
    let t = (goal.at.loop-y-preserved c).After-times in
    let j = get_or c.args.places.now c.loop-y.y 0 in
    rw (back c.plus.result c.plus.type_inv, c.plus.ensures.value, back (get_or c.loop-y.line j +0) (omega (arith, peak-at c.loop-y.line j, line-small t)), product t)
    (placed-more c.loop-y.invariant c.requires.places.0 c.loop-y.auto.y c.loop-y-test.true (c.add_square.auto.line ∙ c.requires.sized.0) (product-small t))

pub returns : goal.returns
returns c =
    let b = began (goal.at.returns c).After-add_square in
    square-placed (omega (arith, c.requires.sized)) c.requires.sized.0 c.loop-y-test.false (omega (arith, c.loop-y.auto.y-end, c.requires.places)) (rw b at c.loop-y.invariant) (omega (arith, rw b at c.add_square.ensures.small))
