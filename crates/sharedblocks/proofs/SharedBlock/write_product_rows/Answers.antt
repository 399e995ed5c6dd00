use Rattle.std.proofs.Common.{sym}
use Rattle.arguments.proofs.Size.{read}
use Rattle.integers.specs.Bounds.{bounds_in}
use Rattle.laying.proofs.Written.{wrote-then, wrote-as}
use Rattle.sharedblocks.proofs.Blocks.{product-rows}
use Rattle.sharedblocks.proofs.SharedBlock.write_product_rows.Goals as goal

-- The products, then the row of their sum.
pub returns : goal.returns
returns c =
    let a = rw (c.labels-n.ensures.value, c.first_element-at.ensures.value, read c.lower.type_inv c.lower.ensures.value, c.element_places.ensures, c.place_bit-b.ensures.value, c.new_bits.ensures.value) at c.products.ensures in
    let d = rw (c.labels-n.ensures.value, c.new_bits.ensures.value, c.var_at.ensures, c.past_at.ensures.value) at c.one_row.ensures in
    wrote-as (sym (product-rows (bounds_in c.args.self.now.domains.now) c.args.self.now.args.now c.args.self.now.encoded.now c.args.self.now.first)) (wrote-then a d)
