-- Numbers in the range have a difference that fits.
use Rattle.std.proofs.Common.{◌≡◌, sym, ◌∙◌, true, ◌+◌, nat_abs, ◌≤◌, arith, to_z-of_z}
use Rattle.integers.specs.Number.{◌⊖◌}
use Rattle.integers.proofs.Fits.{fits64}
use Rattle.flatnames.specs.Due.{in_range}
use Rattle.flatnames.proofs.Ranges.{near, narrow}
use Rattle.flatnames.proofs.fits.range_fits.Goals as goal

pub minus-requires : goal.minus-requires
minus-requires c = omega (arith, near _ (sym c.in_range.ensures ∙ c.if-not-in_range.false), near _ (sym c.in_range-2.ensures ∙ c.if-not-in_range-2.false))

pub returns : goal.returns
returns c =
    let lo = c.args.lo in
    let hi = c.args.hi in
    let low : in_range lo ≡ true = simp (to_z-of_z c.ranges.lo) at (sym c.in_range.ensures ∙ c.if-not-in_range.false) in
    let high : in_range hi ≡ true = simp (to_z-of_z c.ranges.hi) at (sym c.in_range-2.ensures ∙ c.if-not-in_range-2.false) in
    let v : c.minus.result ≡ hi ⊖ lo = simp (to_z-of_z c.ranges.lo, to_z-of_z c.ranges.hi) at c.minus.ensures.value in
    let l : nat_abs lo ≤ 134217727 = near lo low in
    let h : nat_abs hi ≤ 134217727 = near hi high in
    let s : nat_abs c.minus.result ≤ nat_abs hi + nat_abs lo = simp (to_z-of_z c.ranges.lo, to_z-of_z c.ranges.hi) at c.minus.ensures.size in
    rw (to_z-of_z (fits64 c.minus.result (omega arith)), v, low, high) (narrow lo hi)
