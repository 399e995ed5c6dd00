use Rattle.std.proofs.Common.{sym, ◌∙◌, ◌+◌}
use Rattle.words.proofs.Reading.{tail-is}
use Rattle.bittables.specs.BitTables.{firsts}
use Rattle.bitenergy.proofs.Walk.{adding_none, adding_one, adding_done}
use Rattle.bitenergy.proofs.rows_energy.Goals.{then-starts_row, else-starts_row}
use Rattle.bitenergy.proofs.rows_energy.Goals as goal

pub loop-at-preserved : goal.loop-at-preserved
loop-at-preserved c =
    elim c.if-starts_row.branch [
      | then-starts_row w ↦
          let tail = tail-is c.args.system.now.words.now (c.loop-at.at + 1) in
          rw (w.total-is, w.first-is)
          (adding_one c.loop-at.invariant c.args.bits.now.fine c.loop-at-test.true (sym c.starts_row.ensures ∙ w.if-starts_row.true) w.own_bits-first.ensures.few
          (rw (tail, w.from-item.ensures) at (w.own_bits-first.ensures.value (firsts c.args.system.now.table.bits.now) c.loop-at.first))
          (rw (tail, w.from-item.ensures) at w.row_energy-one.ensures) w.add_capped-total.ensures)
      | else-starts_row w ↦ rw (w.total-is, w.first-is) (adding_none c.loop-at.invariant c.loop-at-test.true (sym c.starts_row.ensures ∙ w.if-starts_row.false))
    ]

pub returns : goal.returns
returns c = adding_done c.loop-at.invariant c.loop-at-test.false
