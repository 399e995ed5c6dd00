use Rattle.std.proofs.Common.{◌≡◌, arith, length}
use Rattle.valuebits.proofs.Products.{times_more, times-done}
use Rattle.valuebits.proofs.put_times.Goals as goal

pub loop-b-preserved : goal.loop-b-preserved
loop-b-preserved c = rw c.put.ensures (times_more c.args.f c.args.gs.now c.loop-b-test.true c.loop-b.invariant)

pub returns : goal.returns
returns c =
    let e : c.loop-b.b ≡ length c.args.gs.now = omega (arith, c.loop-b-test.false, c.loop-b.auto.b-end) in
    rw e at (times-done c.args.f c.args.gs.now c.loop-b-test.false c.loop-b.invariant)
