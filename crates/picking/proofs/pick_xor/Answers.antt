-- One product, then the other.
use Rattle.std.proofs.Common.{arith, rules}
use Rattle.integers.proofs.Fits.{back}
use Rattle.picking.proofs.Puts.{then_puts}
use Rattle.models.specs.Model.{builtin, builtins}
use Rattle.rules.specs.Pick.{pick}
use Rattle.picking.proofs.pick_xor.Goals as goal

pub put-requires : goal.put-requires
unfolding pick builtin builtins
put-requires c = (search rules, rw (back c.values_product.result c.values_product.type_inv, c.values_product.ensures) (c.requires.ranged 0))

pub put-requires-2 : goal.put-requires-2
unfolding pick builtin builtins
put-requires-2 c =
    (omega (arith, c.put.ensures.laid.ends), rw (back c.values_product-2.result c.values_product-2.type_inv, c.values_product-2.ensures) (c.requires.ranged 1))

pub returns : goal.returns
unfolding pick builtin builtins
returns c =
    rw (back c.values_product.result c.values_product.type_inv, c.values_product.ensures, back c.values_product-2.result c.values_product-2.type_inv, c.values_product-2.ensures) at (then_puts c.put.ensures c.put-2.ensures)
