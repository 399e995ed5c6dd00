-- The place of x among the members that stand at the front of the array.
use Rattle.std.proofs.Common.{◌≡◌, refl, sym, ap, ◌∙◌, ◌≤◌, arith, length, length-take-le}
use Rattle.integers.specs.Number.{+1}
use Rattle.integers.specs.Bounds.{bounds_in}
use Rattle.integers.proofs.Fits.{back}
use Rattle.words.proofs.Overlay.{length-overlay}
use Rattle.models.specs.Model.{nums, var}
use Rattle.rules.specs.Parts.{members}
use Rattle.arguments.proofs.Size.{read}
use Rattle.extremes.proofs.Rising.{members-length}
use Rattle.picking.specs.Only.{only_at}
use Rattle.picking.specs.Picked.{picks_of}
use Rattle.picking.proofs.Only.{bits-ranged}
use Rattle.picking.proofs.Members.{member-picks}
use Rattle.picking.proofs.pick_member.Goals.{After-first_number-h, After-members-n}
use Rattle.picking.proofs.pick_member.Goals as goal

many : (c : After-members-n) → let a = c.args in let ws = a.near.now.instance.args.now in
    c.members-n.result ≡ length (members (nums ws 1) (bounds_in a.domains.now (var ws 0)))
many c =
    c.members-n.ensures.count ∙ rw (read c.lower.type_inv c.lower.ensures.value, read c.upper.type_inv c.upper.ensures.value, c.bounds_of_first-x.ensures)

few : (c : After-members-n) → c.members-n.result ≤ 32
few c =
    let a = c.args in
    let ws = a.near.now.instance.args.now in
    omega (arith, many c, members-length ws 1 (bounds_in a.domains.now (var ws 0)))

long : (c : After-members-n) → length c.members-n.new.out ≡ 32
long c = ap length c.members-n.ensures.listed ∙ length-overlay _ 0 _

picks : (c : After-first_number-h) → let a = c.args in picks_of a.domains.now a.near.now.instance 27 ≡ only_at c.members-n.result c.first_number-h.result +1
picks c =
    member-picks c.args.domains.now c.args.near.now.instance _ c.members-n.new.out c.members-n.result c.first_number-h.result refl (c.members-n.ensures.count ∙ rw (read c.lower.type_inv c.lower.ensures.value, read c.upper.type_inv c.upper.ensures.value, c.bounds_of_first-x.ensures))
    (rw (read c.lower.type_inv c.lower.ensures.value, read c.upper.type_inv c.upper.ensures.value, c.bounds_of_first-x.ensures) at c.members-n.ensures.listed)
    (rw (back c.value.result c.value.type_inv, c.value.ensures.value) at c.first_number-h.ensures)

pub slice_bounds-inside-end : goal.slice_bounds-inside-end
slice_bounds-inside-end c = let m = (goal.at.slice_bounds-inside-end c).After-members-n in omega (arith, few m, long m)

pub slice_bounds-first_number-end : goal.slice_bounds-first_number-end
slice_bounds-first_number-end c =
    let m = (goal.at.slice_bounds-first_number-end c).After-members-n in
    sym (length-take-le _ _ (omega (arith, few m, long m)))

pub only-requires : goal.only-requires
only-requires c = (omega (arith, few (goal.at.only-requires c).After-members-n), bits-ranged c.members-n.result c.first_number-h.result)

pub returns : goal.returns
returns c = rw (picks (goal.at.returns c).After-first_number-h) c.only.ensures
