-- Line after line.
use Rattle.std.proofs.Common.{ap, ◌∙◌, arith, length}
use Rattle.bitwriting.proofs.Band.{line-inside, lent, line-length, passing-begun, passing-more, passing-done}
use Rattle.bitwriting.proofs.take_band.Goals as goal

pub loop-q-init : goal.loop-q-init
loop-q-init c = passing-begun _ _ _

pub loop-q-preserved : goal.loop-q-preserved
loop-q-preserved c =
    let n = c.args.n in
    let f = line-inside n c.args.h c.loop-q.q (length c.args.band.now) c.requires.0 c.loop-q-test.true in
    let s = c.loop-q.invariant in
    let e = lent n c.loop-q.q c.loop-q.band ∙ s.left c.loop-q.q (omega arith) in
    passing-more f s (c.take_line.auto.line ∙ ap length (lent n c.loop-q.q c.loop-q.band) ∙ line-length n c.loop-q.q c.loop-q.band (omega (arith, f, s.same)))
    (rw e at c.take_line.ensures.1)

pub returns : goal.returns
returns c = passing-done c.loop-q-test.false c.loop-q.invariant
