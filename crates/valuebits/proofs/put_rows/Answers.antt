use Rattle.std.proofs.Common.{sym, ◌∙◌, ◌+◌}
use Rattle.words.proofs.Reading.{tail-is}
use Rattle.valuebits.proofs.Rows.{walking_none, walking_one, walking_done}
use Rattle.valuebits.proofs.put_rows.Goals.{then-starts_row, else-starts_row}
use Rattle.valuebits.proofs.put_rows.Goals as goal

pub loop-at-preserved : goal.loop-at-preserved
loop-at-preserved c =
    elim c.if-starts_row.branch [
      | then-starts_row w ↦ rw (w.out-is, w.to-is) (walking_one _ _ c.loop-at.invariant c.loop-at-test.true (sym c.starts_row.ensures ∙ w.if-starts_row.true)
          (rw (tail-is c.args.ws.now (c.loop-at.at + 1), w.from.ensures) at w.put_row-to.ensures.laid) w.put_row-to.ensures.few)
      | else-starts_row w ↦ rw (w.out-is, w.to-is) (walking_none _ _ c.loop-at.invariant c.loop-at-test.true (sym c.starts_row.ensures ∙ w.if-starts_row.false))
    ]

pub returns : goal.returns
returns c = walking_done _ _ c.loop-at.invariant c.loop-at-test.false
