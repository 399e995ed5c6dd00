-- The new bits, then the products.
use Rattle.std.proofs.Common.{arith}
use Rattle.integers.specs.Terms.{value}
use Rattle.picking.proofs.Puts.{then_puts}
use Rattle.models.specs.Model.{var}
use Rattle.rules.specs.Shared.{choice, new_pick, shared_pick}
use Rattle.integers.specs.Bounds.{bounds_in}
use Rattle.encodings.specs.Uses.{choice_of}
use Rattle.picking.specs.Picked.{product_picks}
use Rattle.picking.proofs.Writing.{ranged-right}
use Rattle.picking.proofs.pick_shared_var_element.Goals as goal

pub pick_products-requires : goal.pick_products-requires
unfolding choice_of choice shared_pick product_picks
pick_products-requires c =
    (omega (arith, c.requires.place, c.pick_new_bits.ensures.few), ranged-right (new_pick (bounds_in c.args.domains.now) c.args.encoded.now (value c.args.near.now.instance.values.now) (var c.args.near.now.instance.args.now 0)) (product_picks c.args.domains.now c.args.near.now.instance) c.requires.ranged)

pub returns : goal.returns
unfolding choice_of choice shared_pick product_picks
returns c = then_puts c.pick_new_bits.ensures.puts c.pick_products.ensures
