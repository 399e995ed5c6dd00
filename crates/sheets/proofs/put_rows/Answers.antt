use Rattle.std.proofs.Common.{sym, ◌∙◌, arith, ◌+◌, get_or, drop}
use Rattle.words.proofs.Reading.{tail-is}
use Rattle.rowsystems.proofs.Walk.{starts_none, starts-one, none_left}
use Rattle.rowsystems.specs.OneWord.{row_of}
use Rattle.decimals.proofs.Printed.{none_printed, print-part, same_left}
use Rattle.decimals.proofs.Printed as printed
use Rattle.sheetlines.specs.Lines.{row_lines, rows_lines}
use Rattle.sheets.specs.Sheet.{sheet_text}
use Rattle.sheets.proofs.put_rows.Goals.{then-starts_row, else-starts_row}
use Rattle.sheets.proofs.put_rows.Goals as goal

pub loop-at-init : goal.loop-at-init
unfolding sheet_text
loop-at-init c = record { few = omega arith; size = omega (arith, c.requires.1); printing = none_printed _ _ }

pub loop-at-preserved : goal.loop-at-preserved
unfolding rows_lines
loop-at-preserved c =
    elim c.if-starts_row.branch [
      | then-starts_row w ↦ rw (w.page-is, w.k-is) (record {
        few = omega (arith, c.loop-at.invariant.few);
        size = omega (arith, w.put_row.ensures.size, c.loop-at.invariant.size);
        printing =
            print-part {xs = row_lines c.loop-at.k (row_of (get_or c.args.ws.now c.loop-at.at 0) (drop (c.loop-at.at + 1) c.args.ws.now))}
            (same_left (rw (starts-one c.args.ws.now c.loop-at.at c.loop-at-test.true (sym c.starts_row.ensures ∙ w.if-starts_row.true))) c.loop-at.invariant.printing)
            (rw (c.from-head.ensures, tail-is c.args.ws.now (c.loop-at.at + 1)) at w.put_row.ensures.text);
      })
      | else-starts_row w ↦ rw (w.page-is, w.k-is) (record {
        few = omega (arith, c.loop-at.invariant.few);
        size = c.loop-at.invariant.size;
        printing = same_left (rw (starts_none c.args.ws.now c.loop-at.at c.loop-at-test.true (sym c.starts_row.ensures ∙ w.if-starts_row.false))) c.loop-at.invariant.printing;
      })
    ]

pub returns : goal.returns
unfolding rows_lines
returns c = printed.none_left (same_left (rw (none_left c.args.ws.now c.loop-at.at c.loop-at-test.false)) c.loop-at.invariant.printing)
