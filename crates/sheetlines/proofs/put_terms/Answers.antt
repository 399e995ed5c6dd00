use Rattle.std.proofs.Common.{arith, ◌+◌, ◌*◌}
use Rattle.integers.specs.Terms.{◌·◌}
use Rattle.words.proofs.ReadBack.{payload-below}
use Rattle.rowsystems.specs.RowSystem.{number_at, variable_at}
use Rattle.decimals.specs.Printed.{Prints}
use Rattle.decimals.proofs.Printed.{print-part, print-last, same_left}
use Rattle.sheetlines.specs.Lines.{term_text}
use Rattle.sheetlines.proofs.Cells.{room-few, term-then, term-last}
use Rattle.sheetlines.proofs.put_terms.Goals.{After-put_term}
use Rattle.sheetlines.proofs.put_terms.Goals as goal

-- the term at this place is printed
printed : (c : After-put_term) →
    Prints c.loop-k.page (term_text c.loop-k.room (number_at c.args.ws.now (2 * c.loop-k.k + 1) · variable_at c.args.ws.now (2 * c.loop-k.k))) c.put_term.new.page
unfolding number_at variable_at
printed c = rw (← c.at-number.ensures, ← c.at.ensures, ← c.payload-variable.ensures) c.put_term.ensures.text

pub put_term-requires : goal.put_term-requires
put_term-requires c =
    (omega (arith, c.loop-k.invariant.size, c.requires.0, c.requires.1), omega (arith, payload-below c.at.result, c.payload-variable.ensures))

pub loop-k-preserved : goal.loop-k-preserved
loop-k-preserved c = record {
  few = rw c.room_after-room.ensures (room-few _ c.loop-k.invariant.few);
  size = omega (arith, c.put_term.ensures.size, c.loop-k.invariant.size);
  printing =
      rw c.room_after-room.ensures
      (print-part (same_left (term-then c.args.ws.now c.args.n c.loop-k.k c.loop-k-test.true c.loop-k.room) c.loop-k.invariant.printing) (printed (goal.at.loop-k-preserved c).After-put_term));
}

pub returns-clause-text : goal.returns-clause-text
returns-clause-text c =
    print-last (same_left (term-last c.args.ws.now c.args.n c.loop-k.k c.loop-k-test.false c.loop-k.room) c.loop-k.invariant.printing) c.put_line_end.ensures.text
