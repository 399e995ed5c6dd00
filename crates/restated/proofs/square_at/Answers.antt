-- Every number of the row is at most 16,384.
use Rattle.std.proofs.Common.{refl, ◌∙◌, arith, to_z-of_z, eq-eqb, ne_eqb}
use Rattle.integers.proofs.Fits.{back}
use Rattle.bitlines.specs.Line.{square_at}
use Rattle.bitlines.proofs.Dense.{peak-at}
use Rattle.restated.proofs.square_at.Goals as goal

pub on_diagonal-requires : goal.on_diagonal-requires
on_diagonal-requires c =
    rw (back c.at_or.result c.at_or.type_inv, c.at_or.ensures, to_z-of_z c.ranges.c) (omega (arith, peak-at c.args.row.now c.args.i, c.requires))

pub returns-then-i-j : goal.returns-then-i-j
unfolding square_at
returns-then-i-j c =
    back c.on_diagonal.result c.on_diagonal.type_inv ∙ c.on_diagonal.ensures
    ∙ rw (back c.at_or.result c.at_or.type_inv, c.at_or.ensures, to_z-of_z c.ranges.c, eq-eqb c.args.i c.args.j c.if-i-j.true) refl

pub off_diagonal-requires : goal.off_diagonal-requires
off_diagonal-requires c =
    rw (back c.at_or-2.result c.at_or-2.type_inv, c.at_or-2.ensures, back c.at_or-3.result c.at_or-3.type_inv, c.at_or-3.ensures)
    (omega (arith, peak-at c.args.row.now c.args.i, peak-at c.args.row.now c.args.j, c.requires))

pub returns : goal.returns
unfolding square_at
returns c =
    back c.off_diagonal.result c.off_diagonal.type_inv ∙ c.off_diagonal.ensures
    ∙ rw (back c.at_or-2.result c.at_or-2.type_inv, c.at_or-2.ensures, back c.at_or-3.result c.at_or-3.type_inv, c.at_or-3.ensures, ne_eqb c.args.i c.args.j c.if-i-j.false) refl
