use Rattle.std.proofs.Common.{◌≡◌, ◌∙◌, sym, ap, arith, ℕ, w64, to_z, pos, ◌+ℤ◌, SFits, to_z-of_z, Some}
use mir.Facts.{to_z_pos}
use Rattle.integers.specs.Number.{◌⊕◌}
use Rattle.integers.specs.Bounds.{◌to◌, width}
use Rattle.integers.specs.Lists.{list_of}
use Rattle.flatrewriting.proofs.Ranges.{short-is, short_are, inside, between_fits, list_of-more}
use Rattle.flatrewriting.proofs.range.numbers_between.Goals as goal

pub loop-k-init : goal.loop-k-init
unfolding list_of
loop-k-init c = c.new-numbers.ensures.items

pub overflow_add-lo : goal.overflow_add-lo
unfolding width ◌⊕◌
overflow_add-lo c =
    let h = short-is (width (c.args.lo to c.args.hi)) c.in-Some.size (rw (to_z-of_z c.ranges.lo, to_z-of_z c.ranges.hi) at c.in-Some.ensures) in
    let i = inside c.args.lo c.args.hi c.loop-k.k (omega arith) in
    rw (to_z-of_z c.ranges.lo, to_z_pos w64 {n = c.loop-k.k} (omega arith)) (between_fits c.args.lo _ c.args.hi c.ranges.lo c.ranges.hi i.0 i.1)

pub loop-k-preserved : goal.loop-k-preserved
unfolding width ◌⊕◌
loop-k-preserved c =
    let h = short-is (width (c.args.lo to c.args.hi)) c.in-Some.size (rw (to_z-of_z c.ranges.lo, to_z-of_z c.ranges.hi) at c.in-Some.ensures) in
    let i = inside c.args.lo c.args.hi c.loop-k.k (omega arith) in
    let k : to_z w64 c.loop-k.k ≡ pos c.loop-k.k = to_z_pos w64 {n = c.loop-k.k} (omega arith) in
    let fits : SFits w64 (c.args.lo +ℤ pos c.loop-k.k) = between_fits c.args.lo _ c.args.hi c.ranges.lo c.ranges.hi i.0 i.1 in
    let inv : c.loop-k.numbers.items ≡ list_of (λ j. c.args.lo ⊕ pos j) c.loop-k.k = simp (to_z-of_z c.ranges.lo) at c.loop-k.invariant in
    rw (c.in_ok-push.ensures.items, to_z-of_z c.ranges.lo, k, to_z-of_z fits, inv) (sym (list_of-more (λ j. c.args.lo ⊕ pos j) c.loop-k.k))

pub returns : goal.returns
returns c =
    let s = short_are (c.args.lo to c.args.hi) c.in-Some.size (rw (to_z-of_z c.ranges.lo, to_z-of_z c.ranges.hi) at c.in-Some.ensures) in
    let inv : c.loop-k.numbers.items ≡ list_of (λ j. c.args.lo ⊕ pos j) c.loop-k.k = simp (to_z-of_z c.ranges.lo) at c.loop-k.invariant in
    let e : c.in-Some.size ≡ c.loop-k.k = omega arith in
    s ∙ ap (λ (n : ℕ). Some (list_of (λ j. c.args.lo ⊕ pos j) n)) e ∙ ap Some (sym inv)
