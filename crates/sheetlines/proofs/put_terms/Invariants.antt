-- The invariant: what is left to print are the lines of the terms left; a term takes at most 35 bytes.
use Rattle.std.proofs.Common.{◌+◌, ◌*◌, ◌≤◌, drop}
use Rattle.rowsystems.specs.RowSystem.{terms_in}
use Rattle.decimals.proofs.Printed.{Printing}
use Rattle.sheetlines.specs.Lines.{term_lines}
use Rattle.sheetlines.proofs.put_terms.Given as goal

abbrev pub invariant-loop-k : goal.invariant-loop-k
invariant-loop-k l = record {
  few : l.room ≤ 3;
  size : l.page.at ≤ l.initial.page.at + 35 * l.k;
  printing : Printing l.initial.page (term_lines 3 (terms_in l.ws l.n)) l.page (term_lines l.room (drop l.k (terms_in l.ws l.n)));
}
