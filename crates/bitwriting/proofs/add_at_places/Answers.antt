-- Place after place.
use Rattle.std.proofs.Common.{◌≡◌, ap, subst, ◌∙◌, ◌+◌, ◌-◌, arith, length, get_or, w64, to_z, of_z}
use Rattle.bitplaces.proofs.Placed.{places_after}
use Rattle.bitplaces.specs.SquareAdded.{SquareAdded}
use Rattle.bitwriting.specs.Bands.{line_at}
use Rattle.bitwriting.proofs.Band.{line-inside, lent, line-length}
use Rattle.bitwriting.proofs.Squaring.{squaring_begun, squaring_one, squaring_none}
use Rattle.bitwriting.proofs.add_at_places.Goals.{then-p-i, else-p-i}
use Rattle.bitwriting.proofs.add_at_places.Goals as goal

pub loop-x-init : goal.loop-x-init
loop-x-init c = squaring_begun c.args.h _ c.args.band.now c.requires.places.0 c.requires.sized.1

pub slice_bounds-add_square_at-end : goal.slice_bounds-add_square_at-end
slice_bounds-add_square_at-end c =
    let i = c.requires.places.0.inside c.loop-x.x (omega arith) c.loop-x-test.true in
    omega (arith, line-inside (length c.args.row.now) c.args.h (get_or c.args.places.now c.loop-x.x 0 - c.args.i) (length c.args.band.now) c.requires.sized.0.room (omega (arith, i, c.if-p-i.true)), c.loop-x.auto.band)

pub add_square_at-requires-clause-places : goal.add_square_at-requires-clause-places
add_square_at-requires-clause-places c =
    (places_after c.requires.places.0 c.loop-x.x c.loop-x-test.true, omega (arith, c.loop-x-test.true), omega (arith, c.requires.places, c.requires.sized.0.few), c.requires.places.2)

pub loop-x-preserved : goal.loop-x-preserved
loop-x-preserved c =
    elim c.if-p-i.branch [
      | then-p-i w ↦
          let n = length c.args.row.now in
          let p = get_or c.args.places.now c.loop-x.x 0 in
          let q = p - c.args.i in
          let s = c.loop-x.invariant in
          let o = c.requires.places.0.inside c.loop-x.x (omega arith) c.loop-x-test.true in
          let f = line-inside n c.args.h q (length c.args.band.now) c.requires.sized.0.room (omega (arith, o, w.if-p-i.true)) in
          let b : p ≡ c.args.i + q = omega (arith, o) in
          let e = lent n q c.loop-x.band ∙ s.left q c.loop-x.x (omega arith) c.loop-x-test.true b in
          rw w.band-is
          (squaring_one s c.requires.places.0 c.loop-x-test.true w.if-p-i.true f
          (w.add_square_at.ensures.same ∙ ap length (lent n q c.loop-x.band) ∙ line-length n q c.loop-x.band (omega (arith, f, s.same)))
          (subst (λ m. SquareAdded c.args.row.now (to_z w64 (of_z w64 c.args.c)) m (line_at n q c.args.band.now) w.add_square_at.new.line) b (rw e at w.add_square_at.ensures)))
      | else-p-i w ↦ rw w.band-is (squaring_none c.loop-x.invariant c.requires.places.0 c.loop-x-test.true w.if-p-i.false)
    ]
