-- The bits of the factors stand at the fronts of the lists.
use Rattle.std.proofs.Common.{◌≡◌, arith, take}
use Rattle.integers.specs.Bounds.{bounds_in}
use Rattle.integers.specs.Terms.{value}
use Rattle.bitforms.specs.ValueBits.{bits_of_value, own_bits}
use Rattle.valuebits.proofs.Rows.{value-fine}
use Rattle.valuebits.proofs.Variables.{front-is}
use Rattle.valuebits.proofs.put_product.Goals.{After-put_variable-m, After-put_variable-k}
use Rattle.valuebits.proofs.put_product.Goals as goal

front_f : (c : After-put_variable-m) → take c.put_variable-m.result c.put_variable-m.new.out ≡ bits_of_value (bounds_in c.args.domains.now c.row_variable.result) (value c.args.values.now.list.now c.row_variable.result)
front_f c = front-is c.put_variable-m.ensures.laid (omega (arith, c.put_variable-m.ensures.laid.ends, c.put_variable-m.ensures.few))

front_g : (c : After-put_variable-k) → take c.put_variable-k.result c.put_variable-k.new.out ≡ bits_of_value (bounds_in c.args.domains.now c.row_variable-2.result) (value c.args.values.now.list.now c.row_variable-2.result)
front_g c = front-is c.put_variable-k.ensures.laid (omega (arith, c.put_variable-k.ensures.laid.ends, c.put_variable-k.ensures.few))

pub put_products-requires : goal.put_products-requires
put_products-requires c =
    let f = front_f (goal.at.put_products-requires c).After-put_variable-m in
    let g = front_g (goal.at.put_products-requires c).After-put_variable-k in (
      rw f (value-fine _ _),
      rw f (omega (arith, c.put_variable-m.ensures.laid.ends, c.put_variable-m.ensures.few)),
      rw g (omega (arith, c.put_variable-k.ensures.laid.ends, c.put_variable-k.ensures.few)),
      c.requires,
    )

pub returns-clause-laid : goal.returns-clause-laid
unfolding own_bits
returns-clause-laid c =
    let f = front_f (goal.at.returns-clause-laid c).After-put_variable-m in
    let g = front_g (goal.at.returns-clause-laid c).After-put_variable-k in
    rw (f, g, c.row_variable.ensures, c.row_variable-2.ensures) at c.put_products.ensures.laid
