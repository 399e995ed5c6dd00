-- The blanks, then the line feed.
use Rattle.decimals.proofs.Printed.{then_prints}
use Rattle.sheetlines.specs.Lines.{line_end}
use Rattle.sheetlines.proofs.put_line_end.Goals as goal

pub returns-clause-text : goal.returns-clause-text
unfolding line_end
returns-clause-text c = then_prints c.blanks.ensures.text c.byte.ensures.text
