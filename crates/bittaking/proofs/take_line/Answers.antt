-- The numbers past bit i, then that of bit i.
use Rattle.std.proofs.Common.{refl, arith}
use Rattle.arguments.proofs.Size.{read}
use Rattle.bitlines.proofs.Dense.{peak-at}
use Rattle.bittaking.proofs.Far.{near-back}
use Rattle.bittaking.proofs.Line.{passing-begun, passing-more, passing-done, plain-taken}
use Rattle.bittaking.proofs.take_line.Goals as goal

pub loop-d-init : goal.loop-d-init
loop-d-init c = passing-begun _ _ _

pub loop-d-preserved : goal.loop-d-preserved
loop-d-preserved c =
    passing-more c.loop-d.auto.d c.loop-d.invariant (rw (near-back _ c.args.taken.now.near.near_times.few) at c.take_at.ensures)

pub take_at-requires-2 : goal.take_at-requires-2
take_at-requires-2 c =
    let k = c.args.taken.now.near in
    (rw (near-back _ k.near_times.few) k.near_times, rw (read c.at_or.type_inv c.at_or.ensures) (omega (arith, peak-at c.args.taken.now.added.now c.args.i, k.near_added)))

pub returns : goal.returns
returns c =
    passing-done c.args.taken.now.added.now c.loop-d-test.false c.loop-d.invariant refl
    (rw (near-back _ c.args.taken.now.near.near_times.few, read c.at_or.type_inv c.at_or.ensures) at c.take_at-2.ensures)

pub returns-then-is_plain : goal.returns-then-is_plain
returns-then-is_plain c =
    let p = c.is_plain.ensures c.if-is_plain.true in
    plain-taken c.args.taken.now.times c.args.taken.now.added.now c.args.line.now c.args.i c.args.m p.0 p.1
