-- Line after line, each from the band.
use Rattle.std.proofs.Common.{◌≡◌, refl, sym, [], ◌∙◌, ◌+◌, ◌-◌, arith}
use Rattle.bitforms.specs.Matrix.{line_entries}
use Rattle.bittables.specs.Systems.{rows_of_system}
use Rattle.bitwriting.specs.Bands.{line_at}
use Rattle.bitwriting.specs.Lined.{entry_taken}
use Rattle.bitwriting.specs.EntriesPut.{EntriesPut}
use Rattle.bitwriting.proofs.Band.{lent, line-length}
use Rattle.bitwriting.proofs.Putting.{putting-begun, putting-more, putting-fails, putting-done, entries-taken}
use Rattle.bitwriting.proofs.count_lines.Goals.{After-with_line-held, After-count_one}
use Rattle.bitwriting.proofs.count_lines.Goals as goal

pub loop-i-init : goal.loop-i-init
loop-i-init c =
    (putting-begun _ _ _ _ c.requires.sized.0.few, c.requires.held, omega arith, c.requires.sized.2, refl, λ e. (e, refl))

pub with_line-held-requires-clause-fitting : goal.with_line-held-requires-clause-fitting
with_line-held-requires-clause-fitting c = rw (c.loop-i.auto.row ∙ c.requires.sized.0.row_size) c.requires.fitting

pub with_line-held-requires-clause-sized : goal.with_line-held-requires-clause-sized
with_line-held-requires-clause-sized c =
    let n = c.loop-i.auto.row ∙ c.requires.sized.0.row_size in
    let s = c.requires.sized in (
      record { room = rw (n, c.loop-i.invariant.4) s.0.room; row_size = refl; few = rw n s.0.few },
      omega (arith, n, c.loop-i-test.true),
      λ l. s.1 (omega (arith, c.loop-i-test.true)),
    )

pub with_line-held-requires-clause-held : goal.with_line-held-requires-clause-held
with_line-held-requires-clause-held c =
    let n = c.loop-i.auto.row ∙ c.requires.sized.0.row_size in
    rw n (c.loop-i.invariant.1, c.loop-i.invariant.2, c.loop-i.invariant.3)

-- the line's entries are put
put : (c : After-count_one) →
    EntriesPut (line_entries (entry_taken c.args.taken.now c.args.system.now c.loop-i.i) c.loop-i.i (c.args.n - c.loop-i.i)) [] c.loop-i.to [] c.count_one.result
put c =
    let n = c.args.n in
    let r = c.loop-i.auto.row ∙ c.requires.sized.0.row_size in
    let h = rw r at c.with_line-held.ensures.held in
    let w = rw r at c.with_line-held.ensures.here in
    let q = c.loop-i.i - c.with_line-held.result.start in
    let e : c.with_line-held.result.start + q ≡ c.loop-i.i = omega (arith, w) in
    let b = c.with_line-held.new.band in
    let l = line-length n q b (h.room q (omega (arith, e, w))) in
    entries-taken (rows_of_system c.args.system.now) c.args.taken.now.times c.args.taken.now.added.now (line_at n q b) c.loop-i.i (n - c.loop-i.i) (omega (arith, l, c.loop-i-test.true))
    (rw e at (h.lines q (omega (arith, e, w))))
    (rw (lent n q b, l) at c.count_one.ensures)

-- a band that holds all lines stays
kept : (c : After-with_line-held) → c.args.ready ≡ c.args.n → (c.with_line-held.result.end ≡ c.args.n) × (c.with_line-held.new.band ≡ c.args.band.now)
kept c e =
    let s = c.loop-i.invariant.5 e in
    let k = c.with_line-held.ensures.kept (omega (arith, s.0, c.loop-i-test.true)) in
    (k.0 ∙ s.0, k.1 ∙ s.1)

pub returns-in_err-to : goal.returns-in_err-to
returns-in_err-to c =
    let p = rw c.in_err-to.was at (put (goal.at.returns-in_err-to c).After-count_one) in
    record {
      put = rw c.from_residual.ensures (record { tested = putting-fails c.loop-i.invariant.0 c.loop-i-test.true (sym p.tested); laid = tt });
      whole = λ e. (kept (goal.at.returns-in_err-to c).After-with_line-held e).1;
    }

pub loop-i-preserved : goal.loop-i-preserved
loop-i-preserved c =
    let r = c.loop-i.auto.row ∙ c.requires.sized.0.row_size in
    let w = rw r at c.with_line-held.ensures.here in (
      putting-more c.loop-i.invariant.0 c.loop-i-test.true (rw c.in_ok-to.was at (put (goal.at.loop-i-preserved c).After-count_one)),
      rw r at c.with_line-held.ensures.held,
      omega (arith, w),
      omega (arith, w),
      c.with_line-held.ensures.same ∙ c.loop-i.invariant.4,
      kept (goal.at.loop-i-preserved c).After-with_line-held,
    )

pub returns : goal.returns
returns c = record { put = putting-done c.loop-i.invariant.0 c.loop-i-test.false; whole = λ e. (c.loop-i.invariant.5 e).1 }

pub shape_of-band-in_err-to : goal.shape_of-band-in_err-to
shape_of-band-in_err-to c = c.with_line-held.ensures.same ∙ c.loop-i.invariant.4

pub shape_of-band : goal.shape_of-band
shape_of-band c = c.loop-i.invariant.4
