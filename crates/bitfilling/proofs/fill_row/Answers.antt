-- By the kind of the head, from a list of zeros.
use Rattle.std.proofs.Common.{sym, ◌∙◌, arith, length}
use Rattle.rowsystems.specs.RowSystem.{terms_in, constant_in}
use Rattle.bittables.specs.BitTables.{firsts}
use Rattle.bitrows.proofs.Constant.{row_at_most, row-equal, row-product}
use Rattle.bitfilling.specs.Filled.{dense}
use Rattle.bitfilling.proofs.Filling.{zeros-peak, equal-added}
use Rattle.bitfilling.proofs.fill_row.Goals as goal

pub add_slacked-requires : goal.add_slacked-requires
add_slacked-requires c =
    (c.sum_terms.ensures.few, c.requires, rw c.clear.ensures (omega (arith, zeros-peak (length c.args.row.now))))

pub returns-then-is : goal.returns-then-is
unfolding dense
returns-then-is c =
    rw (row_at_most c.args.head c.args.args.now (sym c.is.ensures ∙ c.if-is.true), ← c.sum_terms.ensures.value, ← c.clear.ensures) c.add_slacked.ensures

pub add_terms-requires : goal.add_terms-requires
add_terms-requires c =
    (c.sum_terms-then-is-2.ensures.few, rw c.clear.ensures (omega (arith, zeros-peak (length c.args.row.now))))

pub returns-then-is-2 : goal.returns-then-is-2
unfolding dense
returns-then-is-2 c =
    rw (row-equal c.args.head c.args.args.now (sym c.is.ensures ∙ c.if-is.false) (sym c.is-2.ensures ∙ c.if-is-2.true), ← c.sum_terms-then-is-2.ensures.value, ← c.clear.ensures) (c.add_terms.ensures.sum ∙ equal-added _ c.args.table.now.domains.now (firsts c.args.table.now.bits.now) c.args.first (terms_in c.args.args.now c.sum_terms-then-is-2.result) (constant_in c.args.args.now c.sum_terms-then-is-2.result))

pub add_product-requires : goal.add_product-requires
add_product-requires c =
    (c.requires, rw c.clear.ensures (omega (arith, zeros-peak (length c.args.row.now))))

pub returns : goal.returns
unfolding dense
returns c =
    rw (row-product c.args.head c.args.args.now (sym c.is.ensures ∙ c.if-is.false) (sym c.is-2.ensures ∙ c.if-is-2.false), ← c.clear.ensures) c.add_product.ensures
