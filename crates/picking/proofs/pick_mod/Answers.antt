-- The quotient of the values that are read, then their division.
use Rattle.std.proofs.Common.{suc, arith}
use Rattle.integers.proofs.Fits.{back}
use Rattle.picking.proofs.Puts.{then_puts}
use Rattle.models.specs.Model.{var, builtin, builtins}
use Rattle.arguments.proofs.Size.{value-near}
use Rattle.rules.specs.Pick.{left_over_pick, pick}
use Rattle.picking.proofs.pick_mod.Goals as goal

pub put-requires : goal.put-requires
unfolding left_over_pick pick builtin builtins
put-requires c = (
  omega (arith, c.requires.place),
  rw (back c.quotient_of-q.result c.quotient_of-q.type_inv, c.quotient_of-q.ensures.value, back c.value-n.result c.value-n.type_inv, c.value-n.ensures.value, back c.value-d.result c.value-d.type_inv, c.value-d.ensures.value) (c.requires.ranged 0),
)

pub division-requires : goal.division-requires
unfolding left_over_pick pick builtin builtins
division-requires c =
    rw (back c.quotient_of-q.result c.quotient_of-q.type_inv, back c.value-n.result c.value-n.type_inv, c.value-n.ensures.value, back c.value-d.result c.value-d.type_inv, c.value-d.ensures.value) (
      omega (arith, c.requires.place, c.put.ensures.laid.ends),
      value-near c.args.near.now.instance.values.now c.args.near.now.small (var c.args.near.now.instance.args.now 1),
      c.quotient_of-q.ensures.near,
      λ k. rw (c.quotient_of-q.ensures.value, back c.value-n.result c.value-n.type_inv, c.value-n.ensures.value, back c.value-d.result c.value-d.type_inv, c.value-d.ensures.value) (c.requires.ranged (suc k)),
    )

pub returns : goal.returns
unfolding left_over_pick pick builtin builtins
returns c =
    rw (back c.quotient_of-q.result c.quotient_of-q.type_inv, c.quotient_of-q.ensures.value, back c.value-n.result c.value-n.type_inv, c.value-n.ensures.value, back c.value-d.result c.value-d.type_inv, c.value-d.ensures.value) at
    (then_puts c.put.ensures c.division.ensures)
