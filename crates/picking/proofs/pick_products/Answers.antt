-- The label of the place is i, so its element is the i-th.
use Rattle.std.proofs.Common.{◌≡◌, ◌∙◌, ◌+◌, ◌≤◌, arith}
use Rattle.integers.specs.Number.{count}
use Rattle.integers.specs.Bounds.{bounds_in}
use Rattle.integers.specs.Terms.{value}
use Rattle.models.specs.Model.{var, size}
use Rattle.arguments.proofs.Size.{read, size-le}
use Rattle.extremes.proofs.Size.{places-width}
use Rattle.picking.specs.Picked.{product_picks}
use Rattle.picking.specs.Only.{only_at}
use Rattle.picking.proofs.Codes.{product-picks}
use Rattle.picking.proofs.pick_products.Goals.{After-count_of, After-place_of-h}
use Rattle.picking.proofs.pick_products.Goals as goal

few : (c : After-place_of-h) → c.width_of-n.result ≤ 32
few c =
    let ws = c.args.near.now.instance.args.now in
    rw (c.width_of-n.ensures, c.labels_of-labels.ensures) (omega (arith, places-width (bounds_in c.args.domains.now (var ws 0)) (size ws 1), size-le ws 1))

picks : (c : After-place_of-h) → let a = c.args in let σ = value a.near.now.instance.values.now in let ws = a.near.now.instance.args.now in
    product_picks a.domains.now a.near.now.instance ≡ only_at c.width_of-n.result c.place_of-h.result (σ (var ws (1 + count (σ (var ws 0)))))
picks c =
    rw (c.width_of-n.ensures, c.labels_of-labels.ensures)
    (product-picks c.args.domains.now c.args.near.now.instance c.place_of-h.result (rw (read c.value-i.type_inv c.value-i.ensures.value, read c.lower.type_inv c.lower.ensures.value, c.width_of-n.ensures, c.labels_of-labels.ensures) at c.place_of-h.ensures))

counted : (c : After-count_of) → c.count_of.result ≡ count (value c.args.near.now.instance.values.now (var c.args.near.now.instance.args.now 0))
counted c = c.count_of.ensures.value ∙ rw (read c.value-i.type_inv c.value-i.ensures.value)

pub only-requires : goal.only-requires
only-requires c = (
  omega (arith, c.requires.0, few (goal.at.only-requires c).After-place_of-h),
  rw (read c.value.type_inv c.value.ensures.value, counted (goal.at.only-requires c).After-count_of) (rw (picks (goal.at.only-requires c).After-place_of-h) at c.requires.1),
)

pub returns : goal.returns
returns c = rw (picks (goal.at.returns c).After-place_of-h) (rw (read c.value.type_inv c.value.ensures.value, counted (goal.at.returns c).After-count_of) at c.only.ensures)
