-- The next byte goes after the bytes before it.
use Rattle.std.proofs.Common.{sym, ◌+◌, get_or, take}
use Rattle.std.proofs.lemmas.List.{take_more}
use Rattle.labels.specs.Position.{start}
use Rattle.labels.proofs.OneByte.{after_one, after_bounds}
use Rattle.labels.proofs.position.position_of.Goals as goal

pub loop-b-preserved : goal.loop-b-preserved
loop-b-preserved c =
    let front = take c.min.result c.args.text.now in
    let i = c.loop-b.b-index in
    let b = get_or front i 0 in
    let bounds = after_bounds c.loop-b.p b (i + 1) c.loop-b.invariant.line c.loop-b.invariant.column in
    record {
      same = rw (c.after-p.ensures, take_more front i 0 c.loop-b-test.true, c.loop-b.invariant.same) (sym (after_one start (take i front) b));
      line = rw c.after-p.ensures bounds.0;
      column = rw c.after-p.ensures bounds.1;
    }
