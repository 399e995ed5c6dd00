-- The parts of a term, one after another.
use Rattle.std.proofs.Common.{◌≡◌, ◌∙◌, arith, to_z-of_z, w64, to_z, of_z}
use Rattle.words.specs.Word.{signed}
use Rattle.words.proofs.ReadBack.{signed-near}
use Rattle.decimals.proofs.Printed.{then_prints}
use Rattle.sheetlines.specs.Lines.{cell}
use Rattle.sheetlines.proofs.Cells.{number_fits, variable-fits}
use Rattle.sheetlines.proofs.put_cell.Goals.{After-signed}
use Rattle.sheetlines.proofs.put_cell.Goals as goal

-- the number of the word
number : (c : After-signed) → to_z w64 (of_z w64 c.signed.result) ≡ signed c.args.number
number c = to_z-of_z {w = w64} (record { sfits = c.signed.type_inv }) ∙ c.signed.ensures

pub number-requires : goal.number-requires
number-requires c = (omega (arith, c.requires.0), rw (number c) (number_fits _ (signed-near c.args.number)))

pub left-requires : goal.left-requires
left-requires c = (omega (arith, c.requires.0, c.number.ensures.end, c.text.ensures.end), variable-fits c.args.variable c.requires.1)

pub returns-clause-text : goal.returns-clause-text
unfolding cell
returns-clause-text c =
    then_prints (rw (number (goal.at.returns-clause-text c).After-signed) at c.number.ensures.text) (then_prints c.text.ensures.text c.left.ensures.text)
