-- The division of the values that are read.
use Rattle.std.proofs.Common.{arith}
use Rattle.integers.proofs.Fits.{back}
use Rattle.models.specs.Model.{var, builtin, builtins}
use Rattle.arguments.proofs.Size.{value-near}
use Rattle.rules.specs.Pick.{pick}
use Rattle.picking.proofs.pick_div.Goals as goal

pub division-requires : goal.division-requires
unfolding pick builtin builtins
division-requires c =
    rw (back c.value.result c.value.type_inv, c.value.ensures.value, back c.value-2.result c.value-2.type_inv, c.value-2.ensures.value, back c.value-3.result c.value-3.type_inv, c.value-3.ensures.value)
    (omega (arith, c.requires.place), value-near c.args.near.now.instance.values.now c.args.near.now.small (var c.args.near.now.instance.args.now 1), value-near c.args.near.now.instance.values.now c.args.near.now.small (var c.args.near.now.instance.args.now 2), c.requires.ranged)
