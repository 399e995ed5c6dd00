-- The bits of 24, then the products.
use Rattle.std.proofs.Common.{arith}
use Rattle.picking.proofs.Puts.{then_puts}
use Rattle.picking.specs.Picked.{picks_of, product_picks}
use Rattle.picking.proofs.Writing.{ranged-right}
use Rattle.picking.proofs.Codes.{var_element_both}
use Rattle.picking.proofs.pick_var_element.Goals as goal

pub pick_products-requires : goal.pick_products-requires
pick_products-requires c =
    let q = rw (var_element_both c.args.domains.now c.args.near.now.instance) at c.requires.ranged in
    (omega (arith, c.requires.place, c.pick_element.ensures.few), ranged-right (picks_of c.args.domains.now c.args.near.now.instance 24) (product_picks c.args.domains.now c.args.near.now.instance) q)

pub returns : goal.returns
returns c =
    rw (var_element_both c.args.domains.now c.args.near.now.instance) (then_puts c.pick_element.ensures.puts c.pick_products.ensures)
