-- The sum of 1 × a and −1 × b is a less b.
use Rattle.std.proofs.Common.{◌≡◌, ◌∙◌, w64, to_z, of_z, rules}
use Rattle.integers.proofs.Fits.{back}
use Rattle.integers.specs.Terms.{value}
use Rattle.integers.specs.Number.{◌⊖◌}
use Rattle.models.specs.Model.{var, builtin, builtins}
use Rattle.rules.specs.Pick.{pick}
use Rattle.picking.proofs.Codes.{difference}
use Rattle.picking.proofs.pick_difference.Goals.{After-minus}
use Rattle.picking.proofs.pick_difference.Goals as goal

whole : (c : After-minus) → to_z w64 (of_z w64 c.minus.result) ≡ value c.args.near.now.instance.values.now (var c.args.near.now.instance.args.now 0) ⊖ value c.args.near.now.instance.values.now (var c.args.near.now.instance.args.now 1)
whole c =
    back c.minus.result c.minus.type_inv ∙ c.minus.ensures.value ∙ rw (back c.value.result c.value.type_inv, c.value.ensures.value, back c.value-2.result c.value-2.type_inv, c.value-2.ensures.value)

pub signed-requires : goal.signed-requires
unfolding pick builtin builtins
signed-requires c = (search rules, rw (whole (c)) (rw difference at c.requires.ranged))

pub returns : goal.returns
unfolding pick builtin builtins
returns c = rw difference (rw (whole (goal.at.returns c).After-minus) at c.signed.ensures)
