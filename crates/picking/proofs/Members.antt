-- The bits of the members of a set, whose numbers stand at the front of a list.
use Rattle.integers.specs.declared.Bounds.{Bounds}
use Rattle.std.proofs.Common.{◌≡◌, sym, ap, ◌∙◌, List, ℕ, arith, ℤ, length, get_or, take}
use Rattle.integers.specs.Number.{◌≟◌, +0, +1}
use Rattle.integers.specs.Bounds.{bounds_in}
use Rattle.integers.specs.Terms.{value}
use Rattle.integers.proofs.Places.{by-places}
use Rattle.words.specs.Overlay.{overlay}
use Rattle.words.proofs.Overlay.{front-over}
use Rattle.models.specs.Model.{var, nums, builtin, builtins}
use Rattle.arguments.specs.declared.instance.Instance.{Instance}
use Rattle.rules.specs.Parts.{members}
use Rattle.rules.specs.Pick.{pick, first_bit}
use Rattle.extremes.proofs.Rising.{members-length}
use Rattle.picking.specs.Picked.{picks_of}
use Rattle.picking.specs.Only.{only_at, FirstAt}
use Rattle.picking.proofs.Only.{first_bit-only_at}

-- 27: where the members stand at the front of a list
pub member-picks : (Ds : List Bounds) (i : Instance) (zeros inside : List ℤ) (n h : ℕ) →
    let ws = i.args.now in
    let ms = members (nums ws 1) (bounds_in Ds (var ws 0)) in
    length zeros ≡ 32 → n ≡ length ms → inside ≡ overlay zeros 0 ms → FirstAt (λ k. get_or (take n inside) k +0 ≟ value i.values.now (var ws 0)) (length (take n inside)) h →
    picks_of Ds i 27 ≡ only_at n h +1
unfolding pick builtin builtins
member-picks Ds i zeros inside n h e m f w =
    let ws = i.args.now in
    let vs = i.values.now in
    let B = bounds_in Ds (var ws 0) in
    let ms = members (nums ws 1) B in
    let front : take n inside ≡ ms = rw (f, m) (front-over zeros ms (omega (arith, members-length ws 1 B))) in
    rw m (ap (first_bit (λ v. v ≟ value vs (var ws 0))) (sym (by-places +0 ms)) ∙ first_bit-only_at (λ v. v ≟ value vs (var ws 0)) (λ k. get_or ms k +0) (length ms) h (rw front at w))
