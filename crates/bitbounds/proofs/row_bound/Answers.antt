-- By the largest number of the row over bits and the size of its constant.
use Rattle.std.proofs.Common.{◌≡◌, ap, ◌∙◌, ◌*◌, ◌≤◌, arith, nat_abs, length, rules, w64, to_z, of_z}
use Rattle.integers.proofs.Fits.{back, mul-le}
use Rattle.bitlines.specs.Dense.{peak}
use Rattle.bittables.specs.BitTables.{firsts, row_by}
use Rattle.rowsystems.specs.OneWord.{row_of}
use Rattle.bitfilling.specs.Filled.{dense}
use Rattle.bitfilling.proofs.Lines.{fits-sizes}
use Rattle.bitbounds.proofs.Bounds.{size-is, pairs-few, row-within}
use Rattle.bitbounds.proofs.row_bound.Goals.{After-max-most}
use Rattle.bitbounds.proofs.row_bound.Goals as goal

constant-size : (c : After-max-most) → c.unsigned_abs.result ≡ nat_abs (row_by c.args.table.now.domains.now (firsts c.args.table.now.bits.now) c.args.first c.args.head c.args.args.now).whole.constant
constant-size c =
    c.unsigned_abs.ensures.value ∙ size-is (to_z w64 (of_z w64 c.row_constant-c.result)) ∙ ap nat_abs (back c.row_constant-c.result c.row_constant-c.type_inv ∙ c.row_constant-c.ensures c.args.table.now.domains.now (firsts c.args.table.now.bits.now) c.args.first (search rules))

row-peak : (c : After-max-most) → c.peak_of.result ≡ peak (dense (length c.args.row.now) (row_by c.args.table.now.domains.now (firsts c.args.table.now.bits.now) c.args.first c.args.head c.args.args.now).whole.terms)
row-peak c = c.peak_of.ensures ∙ ap peak c.fill_row.ensures

-- both are at most 16,384
small : (c : After-max-most) → c.max-most.result ≤ 16384
small c =
    let s = fits-sizes (length c.args.row.now) _ c.requires.fits in
    omega (arith, s, constant-size c, row-peak c, c.max-most.ensures)

product : (c : After-max-most) → c.max-most.result * c.max-most.result ≤ 268435456
product c = mul-le (small c) (small c)

pub overflow_mul-result : goal.overflow_mul-result
overflow_mul-result c = record { fits = omega (arith, product c) }

pub overflow_mul-result-2 : goal.overflow_mul-result-2
overflow_mul-result-2 c = record { fits = omega (arith, product (goal.at.overflow_mul-result-2 c).After-max-most) }

pub overflow_add-result : goal.overflow_add-result
overflow_add-result c = record { fits = omega (arith, product (goal.at.overflow_add-result c).After-max-most, c.requires.near) }

pub returns : goal.returns
returns c =
    let t = (goal.at.returns c).After-max-most in
    let r = row_by c.args.table.now.domains.now (firsts c.args.table.now.bits.now) c.args.first c.args.head c.args.args.now in (
      row-within (length c.args.row.now) r c.max-most.result c.args.own (omega (arith, constant-size t, c.max-most.ensures)) (omega (arith, row-peak t, c.max-most.ensures))
          (rw c.requires.owned (pairs-few c.args.table.now.domains.now (firsts c.args.table.now.bits.now) c.args.first (row_of c.args.head c.args.args.now))),
      omega (arith, product t, c.requires.near),
    )
