use Rattle.std.proofs.Common.{sym, ◌∙◌, ◌+◌}
use Rattle.words.proofs.Reading.{tail-is}
use Rattle.bitchecks.proofs.Walk.{counting_none, counting_one, counting_done}
use Rattle.bitchecks.proofs.count_bits.Goals.{then-starts_row, else-starts_row}
use Rattle.bitchecks.proofs.count_bits.Goals as goal

pub loop-at-preserved : goal.loop-at-preserved
loop-at-preserved c =
    elim c.if-starts_row.branch [
      | then-starts_row w ↦ rw w.first-is (counting_one c.loop-at.invariant c.loop-at-test.true (sym c.starts_row.ensures ∙ w.if-starts_row.true) w.own_bits-first.ensures.few
          (rw (tail-is c.args.ws.now (c.loop-at.at + 1), w.from.ensures) at w.own_bits-first.ensures.value))
      | else-starts_row w ↦ rw w.first-is (counting_none c.loop-at.invariant c.loop-at-test.true (sym c.starts_row.ensures ∙ w.if-starts_row.false))
    ]

pub returns : goal.returns
returns c = counting_done c.loop-at.invariant c.loop-at-test.false
