-- The bit where it meets itself, then the bits after it.
use Rattle.std.proofs.Common.{◌≡◌, refl, ap, ◌∙◌, ◌+◌, arith, get_or, w64, to_z, of_z, to_z-of_z, eq-eqb, ne_eqb}
use Rattle.integers.specs.Number.{+0}
use Rattle.integers.proofs.Fits.{back}
use Rattle.bitlines.specs.Dense.{bump}
use Rattle.bitlines.specs.Line.{square_at}
use Rattle.bitlines.proofs.Dense.{peak-at}
use Rattle.bitlines.proofs.Line.{squared-first, squared-more, square-size, twice-product}
use Rattle.bitlines.proofs.add_square.Goals.{After-on_diagonal, After-times-twice, After-times}
use Rattle.bitlines.proofs.add_square.Goals as goal

-- the entries that are added
met : (c : After-on_diagonal) → to_z w64 (of_z w64 c.on_diagonal.result) ≡ square_at c.args.row.now (to_z w64 (of_z w64 c.args.c)) c.args.i c.args.i
unfolding square_at
met c =
    back c.on_diagonal.result c.on_diagonal.type_inv ∙ c.on_diagonal.ensures
    ∙ rw (back (get_or c.args.row.now c.args.i +0) (omega (arith, peak-at c.args.row.now c.args.i, c.requires.small)), eq-eqb c.args.i c.args.i refl) refl

began : (c : After-times-twice) → c.add_at.new.row ≡ bump c.args.line.now c.args.i (square_at c.args.row.now (to_z w64 (of_z w64 c.args.c)) c.args.i c.args.i)
began c = c.add_at.ensures ∙ ap (bump c.args.line.now c.args.i) (met (goal.at.loop-d-init c).After-on_diagonal)

other : (c : After-times) → to_z w64 (of_z w64 c.times.result) ≡ square_at c.args.row.now (to_z w64 (of_z w64 c.args.c)) c.args.i (c.args.i + c.loop-d.d)
unfolding square_at
other c =
    back c.times.result c.times.type_inv ∙ c.times.ensures.value
    ∙ rw (
      back c.times-twice.result c.times-twice.type_inv,
      c.times-twice.ensures.value,
      back (get_or c.args.row.now c.args.i +0) (omega (arith, peak-at c.args.row.now c.args.i, c.requires.small)),
      back (get_or c.args.row.now (c.args.i + c.loop-d.d) +0) (omega (arith, peak-at c.args.row.now (c.args.i + c.loop-d.d), c.requires.small)),
      ne_eqb c.args.i (c.args.i + c.loop-d.d) (λ e. omega (arith, c.loop-d.auto.d)),
    ) refl

pub on_diagonal-requires : goal.on_diagonal-requires
on_diagonal-requires c =
    rw (back (get_or c.args.row.now c.args.i +0) (omega (arith, peak-at c.args.row.now c.args.i, c.requires.small)), to_z-of_z c.ranges.c)
    (omega (arith, peak-at c.args.row.now c.args.i, c.requires.small))

pub add_at-requires : goal.add_at-requires
add_at-requires c =
    rw (met (goal.at.add_at-requires c).After-on_diagonal, to_z-of_z c.ranges.c)
    (omega (arith, square-size c.args.row.now c.args.c c.args.i c.args.i c.requires.small.0 c.requires.small.1, c.requires.small.3))

pub times-twice-requires : goal.times-twice-requires
times-twice-requires c =
    rw (back (get_or c.args.row.now c.args.i +0) (omega (arith, peak-at c.args.row.now c.args.i, c.requires.small)))
    (omega (arith, peak-at c.args.row.now c.args.i, c.requires.small))

pub times-requires : goal.times-requires
times-requires c =
    rw (
      back c.times-twice.result c.times-twice.type_inv,
      c.times-twice.ensures.value,
      back (get_or c.args.row.now c.args.i +0) (omega (arith, peak-at c.args.row.now c.args.i, c.requires.small)),
      back (get_or c.args.row.now (c.args.i + c.loop-d.d) +0) (omega (arith, peak-at c.args.row.now (c.args.i + c.loop-d.d), c.requires.small)),
    )
    (twice-product (get_or c.args.row.now c.args.i +0) (get_or c.args.row.now (c.args.i + c.loop-d.d) +0) (omega (arith, peak-at c.args.row.now c.args.i, c.requires.small)) (omega (arith, peak-at c.args.row.now (c.args.i + c.loop-d.d), c.requires.small)))

pub plus-requires : goal.plus-requires
plus-requires c =
    let s = c.loop-d.invariant c.args.line.now (began (goal.at.plus-requires c).After-times-twice) in
    rw (other c, back (get_or c.loop-d.line (c.args.i + c.loop-d.d) +0) (omega (arith, peak-at c.loop-d.line (c.args.i + c.loop-d.d), s.small, s.place, c.requires.small)), to_z-of_z c.ranges.c)
    (omega (arith, peak-at c.loop-d.line (c.args.i + c.loop-d.d), s.small, s.place, c.requires.small, square-size c.args.row.now c.args.c c.args.i (c.args.i + c.loop-d.d) c.requires.small.0 c.requires.small.1))

pub loop-d-preserved : goal.loop-d-preserved
unfolding bump
loop-d-preserved c = λ before e.
    let t = c.loop-d.invariant c.args.line.now (began (goal.at.loop-d-preserved c).After-times-twice) in
    let x = back (get_or c.loop-d.line (c.args.i + c.loop-d.d) +0) (omega (arith, peak-at c.loop-d.line (c.args.i + c.loop-d.d), t.small, t.place, c.requires.small)) in
    rw (back c.plus.result c.plus.type_inv, c.plus.ensures.value, x, other (goal.at.loop-d-preserved c).After-times, to_z-of_z c.ranges.c)
    (squared-more c.requires.small.0 c.requires.small.1 c.loop-d-test.true (rw (to_z-of_z c.ranges.c) at (c.loop-d.invariant before e)))

pub loop-d-init : goal.loop-d-init
loop-d-init c = λ before e. rw (e, to_z-of_z c.ranges.c) (squared-first c.requires.small.0 c.requires.small.1 c.requires.inside.0)

pub returns : goal.returns
returns c =
    let s = rw (to_z-of_z c.ranges.c) at (c.loop-d.invariant c.args.line.now (began (goal.at.returns c).After-times-twice)) in
    let e : c.loop-d.d ≡ c.args.m = omega (arith, s.place, c.loop-d-test.false) in
    record { sum = rw e at s.so_far; small = omega (arith, s.small, e) }
