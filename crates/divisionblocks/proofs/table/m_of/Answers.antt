-- M is the larger of two sums.
use Rattle.integers.proofs.Fits.{back}
use Rattle.arguments.proofs.Size.{read}
use Rattle.divisionblocks.proofs.Largest.{M-is, M-size}
use Rattle.divisionblocks.proofs.table.m_of.Goals as goal

pub returns-clause-value : goal.returns-clause-value
returns-clause-value c =
    rw (read c.largest.type_inv c.largest.ensures, read c.plus-2.type_inv c.plus-2.ensures.value, read c.plus.type_inv c.plus.ensures.value, read c.apart-a.type_inv c.apart-a.ensures.value, read c.either_way-way.type_inv c.either_way-way.ensures.value)
    (M-is c.args.n c.args.d c.args.p)

pub returns-clause-size : goal.returns-clause-size
returns-clause-size c =
    rw (read c.largest.type_inv c.largest.ensures, read c.plus-2.type_inv c.plus-2.ensures.value, read c.plus.type_inv c.plus.ensures.value, back c.apart-a.result c.apart-a.type_inv, back c.either_way-way.result c.either_way-way.type_inv)
    (M-size c.apart-a.result c.either_way-way.result c.apart-a.ensures.size c.either_way-way.ensures.near)
