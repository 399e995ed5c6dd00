-- In this line, or after its end in the next one.
use Rattle.std.proofs.Common.{arith}
use Rattle.decimals.proofs.Printed.{then_prints}
use Rattle.sheetlines.specs.Lines.{term_text}
use Rattle.sheetlines.proofs.Cells.{term-some}
use Rattle.sheetlines.proofs.put_term.Goals.{then-room-eq0, else-room-eq0}
use Rattle.sheetlines.proofs.put_term.Goals as goal

pub returns-clause-text : goal.returns-clause-text
unfolding term_text
returns-clause-text c =
    elim c.if-room-eq0.branch [
      | then-room-eq0 w ↦ rw w.if-room-eq0.true (then_prints w.put_line_end.ensures.text (then_prints (rw (← w.page-is) at w.blanks.ensures.text) c.put_cell.ensures.text))
      | else-room-eq0 w ↦ rw (term-some _ c.args.room (omega (arith, w.if-room-eq0.false)), ← w.page-is) c.put_cell.ensures.text
    ]
