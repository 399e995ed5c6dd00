-- Nothing for k=0; else the products of the power of the value that is read.
use Rattle.std.proofs.Common.{◌≡◌, sym, ◌∙◌, ◌≤◌, arith}
use Rattle.picking.proofs.Puts.{puts_none}
use Rattle.models.specs.Model.{exponent_at, builtin, builtins}
use Rattle.arguments.proofs.Size.{read}
use Rattle.rules.specs.Pick.{power_pick, pick}
use Rattle.picking.proofs.Powers.{pick_some}
use Rattle.picking.proofs.pick_pow.Goals as goal

pub returns-in-0 : goal.returns-in-0
unfolding power_pick pick builtin builtins
returns-in-0 c =
    let e : exponent_at c.args.near.now.instance.args.now 1 ≡ 0 = sym c.exponent_at.ensures.value ∙ c.in-0.is in
    rw e puts_none

pub powers-requires : goal.powers-requires
unfolding pick builtin builtins
powers-requires c =
    let one : 1 ≤ exponent_at c.args.near.now.instance.args.now 1 = omega (arith, c.exponent_at.ensures.value) in
    rw (read c.value-x.type_inv c.value-x.ensures.value, c.exponent_at.ensures.value)
    (omega (arith, c.requires.place, c.exponent_at.ensures.size), rw c.value-x.ensures.value at c.value-x.ensures.near, one, rw c.exponent_at.ensures.value at c.exponent_at.ensures.size, rw (pick_some _ _ one) at c.requires.ranged)

pub returns-in_default : goal.returns-in_default
unfolding pick builtin builtins
returns-in_default c =
    let one : 1 ≤ exponent_at c.args.near.now.instance.args.now 1 = omega (arith, c.exponent_at.ensures.value) in
    let p = rw (read c.value-x.type_inv c.value-x.ensures.value, c.exponent_at.ensures.value) at c.powers.ensures in
    rw (pick_some _ _ one) p.picked
