use Rattle.std.proofs.Common.{◌<◌, arith}
use Rattle.laying.proofs.Written.{writing-none, writing-more, writing-done}
use Rattle.choiceblocks.proofs.rows.first_only.Goals as goal

pub loop-k-init : goal.loop-k-init
loop-k-init g c = λ x y p q. writing-none _ _

pub loop-k-preserved : goal.loop-k-preserved
loop-k-preserved g c =
    let h : c.loop-k.k < c.args.n = omega (arith, c.loop-k-test.true) in
    λ x y p q. writing-more (c.loop-k.invariant x y p q) (rw (p c.loop-k.k c.lesser.result h c.lesser.ensures, q c.loop-k.k c.larger.result h c.larger.ensures) at c.later.ensures)

pub returns : goal.returns
returns g c = λ x y p q. writing-done (omega (arith, c.loop-k-test.false, c.saturating_sub-k-end.ensures)) (c.loop-k.invariant x y p q)
