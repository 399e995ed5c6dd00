-- Line after line.
use Rattle.std.proofs.Common.{ap, ◌∙◌, arith, length}
use Rattle.bitwriting.proofs.Band.{line-inside, lent, line-length, passing-begun, passing-more, passing-done}
use Rattle.bitwriting.proofs.add_pairs_to_lines.Goals as goal

pub loop-q-init : goal.loop-q-init
loop-q-init c = passing-begun _ _ _

pub add_pairs_to_line-requires-clause-small : goal.add_pairs_to_line-requires-clause-small
add_pairs_to_line-requires-clause-small c = (
  rw (lent (length c.args.row.now) c.loop-q.q c.loop-q.band, c.loop-q.invariant.left c.loop-q.q (omega arith)) (c.requires.small.1 c.loop-q.q c.loop-q-test.true),
  c.requires.small.0,
  omega (arith, c.requires.sized.1, c.loop-q-test.true),
)

pub loop-q-preserved : goal.loop-q-preserved
loop-q-preserved c =
    let n = length c.args.row.now in
    let f = line-inside n c.args.h c.loop-q.q (length c.args.band.now) c.requires.sized.0.room c.loop-q-test.true in
    let s = c.loop-q.invariant in
    let e = lent n c.loop-q.q c.loop-q.band ∙ s.left c.loop-q.q (omega arith) in
    passing-more f s (c.add_pairs_to_line.ensures.same ∙ ap length (lent n c.loop-q.q c.loop-q.band) ∙ line-length n c.loop-q.q c.loop-q.band (omega (arith, f, s.same)))
    (rw e at c.add_pairs_to_line.ensures)

pub returns : goal.returns
returns c = passing-done c.loop-q-test.false c.loop-q.invariant
