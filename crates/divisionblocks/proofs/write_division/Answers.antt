use Rattle.arguments.proofs.Size.{read}
use Rattle.laying.proofs.Written.{wrote-then}
use Rattle.divisionblocks.specs.Rows.{division_parts}
use Rattle.divisionblocks.proofs.write_division.Goals as goal

-- The auxiliaries, then the rows of the table; p is within the end products.
pub returns : goal.returns
unfolding division_parts
returns c =
    let M = read c.m_of.type_inv c.m_of.ensures.value in
    let v = rw (c.end_products-p.ensures.value, c.domain_of-divisor.ensures) at c.write_auxiliaries.ensures in
    let w = rw (c.numbers-table.ensures, M, c.end_products-p.ensures.value, c.domain_of-divisor.ensures, c.domain_of-numerator.ensures) at c.write_rows.ensures in
    wrote-then v w
