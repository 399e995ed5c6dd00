use Rattle.std.proofs.Common.{refl, sym, ◌∙◌, ◌+◌, arith, length}
use Rattle.words.proofs.Reading.{tail-is}
use Rattle.bittables.specs.BitTables.{firsts}
use Rattle.bitwriting.proofs.Band.{line-inside, zero-line}
use Rattle.bitwriting.proofs.Lining.{lining_begun, row_here, lining_one, lining_none, lining_done}
use Rattle.bitwriting.proofs.fill_band.Goals.{then-starts_row, else-starts_row}
use Rattle.bitwriting.proofs.fill_band.Goals as goal

pub loop-at-init : goal.loop-at-init
loop-at-init c q v =
    let s = c.args.system.now in
    let n = length c.args.row.now in
    rw (c.clear.ensures, zero-line n q (length c.args.band.now) (line-inside n c.args.h q (length c.args.band.now) c.requires.sized.0.room v))
    (lining_begun s.words.now s.table.domains.now (firsts s.table.bits.now) s.start (c.args.i + q) n c.args.row.now c.requires.fitting refl c.requires.sized.0.few)

pub add_to_band-first-requires-clause-near : goal.add_to_band-first-requires-clause-near
add_to_band-first-requires-clause-near c =
    let s = c.args.system.now in
    let k = c.loop-at.invariant 0 c.requires.sized.2 in
    omega (arith, k.near, k.place, s.few_words, s.near_start)

pub add_to_band-first-requires-clause-sized : goal.add_to_band-first-requires-clause-sized
add_to_band-first-requires-clause-sized c =
    (record { room = rw (c.loop-at.auto.row, c.loop-at.auto.band ∙ c.clear.auto.row) c.requires.sized.0.room; row_size = refl; few = omega (arith, c.loop-at.auto.row, c.requires.sized.0.few) }, omega (arith, c.loop-at.auto.row, c.requires.sized.1))

pub add_to_band-first-requires-clause-small : goal.add_to_band-first-requires-clause-small
add_to_band-first-requires-clause-small c q v =
    let k = c.loop-at.invariant q v in
    omega (arith, k.small, k.place, c.args.system.now.few_words)

pub add_to_band-first-requires-clause-fits : goal.add_to_band-first-requires-clause-fits
add_to_band-first-requires-clause-fits c =
    rw (tail-is c.args.system.now.words.now (c.loop-at.at + 1), c.from-item.ensures) (row_here (c.loop-at.invariant 0 c.requires.sized.2) c.loop-at-test.true (sym c.starts_row.ensures ∙ c.if-starts_row.true))

pub loop-at-preserved : goal.loop-at-preserved
loop-at-preserved c =
    elim c.if-starts_row.branch [
      | then-starts_row w ↦
          let t = tail-is c.args.system.now.words.now (c.loop-at.at + 1) in
          rw (w.band-is, w.row-is, w.first-is, w.add_to_band-first.auto.row)
          (λ q v.
          lining_one (c.loop-at.invariant q v) c.loop-at-test.true (sym c.starts_row.ensures ∙ w.if-starts_row.true) (rw (t, w.from-item.ensures) at (w.add_to_band-first.ensures.added.lines q v)) w.add_to_band-first.auto.row (rw (t, w.from-item.ensures) at w.add_to_band-first.ensures.next))
      | else-starts_row w ↦
          rw (w.band-is, w.row-is, w.first-is)
          (λ q v. lining_none (c.loop-at.invariant q v) c.loop-at-test.true (sym c.starts_row.ensures ∙ w.if-starts_row.false))
    ]

pub returns : goal.returns
returns c =
    (c.loop-at.auto.band ∙ c.clear.auto.row, λ q v. rw c.loop-at.auto.row at (lining_done (c.loop-at.invariant q v) c.loop-at-test.false))
