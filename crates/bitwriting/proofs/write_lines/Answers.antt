-- Line after line, each from the band.
use Rattle.std.proofs.Common.{◌≡◌, refl, Some, ◌∙◌, ◌+◌, ◌-◌, arith}
use Rattle.bitforms.specs.Matrix.{line_entries}
use Rattle.bittables.specs.Systems.{rows_of_system}
use Rattle.bitwriting.specs.Bands.{line_at}
use Rattle.bitwriting.specs.Lined.{entry_taken}
use Rattle.bitwriting.specs.EntriesPut.{EntriesPut}
use Rattle.bitwriting.proofs.Band.{lent, line-length}
use Rattle.bitwriting.proofs.Putting.{putting-begun, putting-more, putting-done, line-in_range, line-put}
use Rattle.bitwriting.proofs.write_lines.Goals.{After-put_line-to}
use Rattle.bitwriting.proofs.write_lines.Goals as goal

pub loop-i-init : goal.loop-i-init
loop-i-init c = (putting-begun _ _ _ _ c.requires.sized.0.few, c.requires.held, omega arith, c.requires.sized.2, refl)

pub with_line-held-requires-clause-fitting : goal.with_line-held-requires-clause-fitting
with_line-held-requires-clause-fitting c = rw (c.loop-i.auto.row ∙ c.requires.sized.0.row_size) c.requires.fitting

pub with_line-held-requires-clause-sized : goal.with_line-held-requires-clause-sized
with_line-held-requires-clause-sized c =
    let n = c.loop-i.auto.row ∙ c.requires.sized.0.row_size in
    let s = c.requires.sized in (
      record { room = rw (n, c.loop-i.invariant.4) s.0.room; row_size = refl; few = rw n s.0.few },
      omega (arith, n, c.loop-i-test.true),
      λ l. s.1 (omega (arith, c.loop-i-test.true)),
    )

pub with_line-held-requires-clause-held : goal.with_line-held-requires-clause-held
with_line-held-requires-clause-held c =
    let n = c.loop-i.auto.row ∙ c.requires.sized.0.row_size in
    rw n (c.loop-i.invariant.1, c.loop-i.invariant.2, c.loop-i.invariant.3)

-- the line's entries are laid
put : (c : After-put_line-to) →
    EntriesPut (line_entries (entry_taken c.args.taken.now c.args.system.now c.loop-i.i) c.loop-i.i (c.args.n - c.loop-i.i)) c.loop-i.out c.loop-i.to c.put_line-to.new.out (Some c.put_line-to.result)
put c =
    let n = c.args.n in
    let r = c.loop-i.auto.row ∙ c.requires.sized.0.row_size in
    let h = rw r at c.with_line-held.ensures.held in
    let w = rw r at c.with_line-held.ensures.here in
    let q = c.loop-i.i - c.with_line-held.result.start in
    let e : c.with_line-held.result.start + q ≡ c.loop-i.i = omega (arith, w) in
    let b = c.with_line-held.new.band in
    let l = line-length n q b (h.room q (omega (arith, e, w))) in
    line-put (rows_of_system c.args.system.now) c.args.taken.now.times c.args.taken.now.added.now (line_at n q b) c.loop-i.i (n - c.loop-i.i) (omega (arith, l, c.loop-i-test.true))
    (rw e at (h.lines q (omega (arith, e, w)))) (line-in_range c.loop-i.invariant.0 c.loop-i-test.true c.requires.in_range)
    (rw (lent n q b) at c.put_line-to.ensures)

pub loop-i-preserved : goal.loop-i-preserved
loop-i-preserved c =
    let r = c.loop-i.auto.row ∙ c.requires.sized.0.row_size in
    let w = rw r at c.with_line-held.ensures.here in (
      putting-more c.loop-i.invariant.0 c.loop-i-test.true (put (goal.at.loop-i-preserved c).After-put_line-to),
      rw r at c.with_line-held.ensures.held,
      omega (arith, w),
      omega (arith, w),
      c.with_line-held.ensures.same ∙ c.loop-i.invariant.4,
    )

pub returns : goal.returns
returns c = (putting-done c.loop-i.invariant.0 c.loop-i-test.false).laid
