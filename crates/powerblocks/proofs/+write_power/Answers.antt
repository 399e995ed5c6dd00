use Rattle.std.proofs.Common.{arith}
use Rattle.integers.specs.Bounds.{bit}
use Rattle.powerblocks.proofs.Steps.{products-one, products_even, products-odd}
use Rattle.powerblocks.proofs.+write_power.Goals as goal

-- The products are those of half the power, and one or two more.
pub returns-then-k-lt2 : goal.returns-then-k-lt2
returns-then-k-lt2 t c B = products-one c.args.first c.args.writer.now c.args.x c.args.k c.if-k-lt2.true B

pub next_product-square-requires : goal.next_product-square-requires
next_product-square-requires t c =
    let h = c.write_power-half.ensures bit in
    omega (arith, c.requires.1, c.requires.2, h.few)

pub returns-then-k-eq0 : goal.returns-then-k-eq0
returns-then-k-eq0 t c B = products_even c.args.x c.args.k c.if-k-lt2.false B (c.write_power-half.ensures B) c.next_product-square.ensures c.if-k-eq0.true

pub next_product-requires : goal.next_product-requires
next_product-requires t c =
    let h = c.write_power-half.ensures bit in
    omega (arith, c.requires.1, c.requires.2, h.few, c.next_product-square.ensures.next)

pub returns : goal.returns
returns t c B = products-odd c.args.x c.args.k c.if-k-lt2.false B (c.write_power-half.ensures B) c.next_product-square.ensures c.if-k-eq0.false c.next_product.ensures
