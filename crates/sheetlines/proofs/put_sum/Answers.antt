-- The parts of a row, one after another.
use Rattle.std.proofs.Common.{◌≡◌, ◌∙◌, arith, to_z-of_z, w64, to_z, of_z, ◌*◌}
use Rattle.words.specs.Word.{signed, word_at}
use Rattle.words.proofs.ReadBack.{signed-near}
use Rattle.decimals.proofs.Ahead.{alone}
use Rattle.decimals.proofs.Printed.{then_prints}
use Rattle.rowsystems.specs.RowSystem.{constant_in, number_at}
use Rattle.sheetlines.specs.Lines.{sum_lines, constant_line}
use Rattle.sheetlines.proofs.Cells.{number_fits, length-row_number}
use Rattle.sheetlines.proofs.put_sum.Goals.{After-signed}
use Rattle.sheetlines.proofs.put_sum.Goals as goal

-- the constant of the row
constant : (c : After-signed) → to_z w64 (of_z w64 c.signed.result) ≡ signed (word_at c.args.ws.now (2 * c.args.n))
constant c = to_z-of_z {w = w64} (record { sfits = c.signed.type_inv }) ∙ c.signed.ensures ∙ rw c.at.ensures

pub right-requires : goal.right-requires
right-requires c = (omega (arith, c.requires.0), rw alone (length-row_number c.args.k c.requires.1))

pub number-requires : goal.number-requires
number-requires c =
    let z = signed (word_at c.args.ws.now (2 * c.args.n)) in
    (omega (arith, c.requires.0, c.right.ensures.end, c.text.ensures.end, c.put_terms.ensures.size), rw (constant c) (omega (arith, number_fits z (signed-near (word_at c.args.ws.now (2 * c.args.n))))))

pub returns-clause-text : goal.returns-clause-text
unfolding sum_lines constant_line constant_in number_at
returns-clause-text c =
    then_prints (rw alone at c.right.ensures.text)
    (then_prints c.text.ensures.text
    (then_prints c.put_terms.ensures.text
    (then_prints (rw (constant (goal.at.returns-clause-text c).After-signed) at c.number.ensures.text) c.byte.ensures.text)))
