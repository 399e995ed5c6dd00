-- The invariant: what is left to print are the lines of the rows of the words left; a row takes at most 2,500 bytes.
use Rattle.std.proofs.Common.{◌*◌, ◌≤◌, drop}
use Rattle.rowsystems.specs.RowSystem.{rows}
use Rattle.decimals.proofs.Printed.{Printing}
use Rattle.sheetlines.specs.Lines.{rows_lines}
use Rattle.sheets.specs.Sheet.{sheet_text}
use Rattle.sheets.proofs.put_rows.Given as goal

abbrev pub invariant-loop-at : goal.invariant-loop-at
invariant-loop-at l = record {
  few : l.k ≤ l.at;
  size : l.page.at ≤ 2500 * l.k;
  printing : Printing l.initial.page (sheet_text l.ws) l.page (rows_lines l.k (rows (drop l.at l.ws)));
}
