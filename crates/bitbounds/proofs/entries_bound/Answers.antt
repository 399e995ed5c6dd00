-- Row after row.
use Rattle.std.proofs.Common.{sym, ◌∙◌, ◌+◌}
use Rattle.words.proofs.Reading.{tail-is}
use Rattle.bittables.specs.BitTables.{firsts}
use Rattle.bitbounds.proofs.Bounds.{bounding-begun, bounding-none, bounding-fits, bounding-one, bounding-done}
use Rattle.bitbounds.proofs.entries_bound.Goals.{then-starts_row, else-starts_row}
use Rattle.bitbounds.proofs.entries_bound.Goals as goal

pub loop-at-init : goal.loop-at-init
loop-at-init c = bounding-begun _ _ _ _ _ c.requires

pub row_bound-most-requires-clause-fits : goal.row_bound-most-requires-clause-fits
row_bound-most-requires-clause-fits c =
    rw (tail-is c.args.system.now.words.now (c.loop-at.at + 1), c.from-item.ensures, c.loop-at.invariant.long) (bounding-fits c.loop-at.invariant c.loop-at-test.true (sym c.starts_row.ensures ∙ c.if-starts_row.true))

pub loop-at-preserved : goal.loop-at-preserved
loop-at-preserved c =
    elim c.if-starts_row.branch [
      | then-starts_row w ↦
          let tail = tail-is c.args.system.now.words.now (c.loop-at.at + 1) in
          rw (w.row-is, w.most-is, w.first-is)
          (bounding-one c.loop-at.invariant c.loop-at-test.true (sym c.starts_row.ensures ∙ w.if-starts_row.true)
          (rw (tail, w.from-item.ensures, c.loop-at.invariant.long) at w.row_bound-most.ensures)
          (rw (tail, w.from-item.ensures) at (w.own_bits-own.ensures.value (firsts c.args.system.now.table.bits.now) c.loop-at.first))
          w.own_bits-own.ensures.few w.row_bound-most.auto.row)
      | else-starts_row w ↦
          rw (w.row-is, w.most-is, w.first-is)
          (bounding-none c.loop-at.invariant c.loop-at-test.true (sym c.starts_row.ensures ∙ w.if-starts_row.false))
    ]

pub returns : goal.returns
returns c = bounding-done c.loop-at.invariant c.loop-at-test.false
