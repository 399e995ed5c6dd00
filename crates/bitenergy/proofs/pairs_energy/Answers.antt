use Rattle.std.proofs.Common.{arith, add-mul}
use Rattle.bitenergy.proofs.Pairs.{none_totalled, one_totalled}
use Rattle.bitenergy.proofs.pairs_energy.Goals as goal

pub loop-a-init : goal.loop-a-init
loop-a-init c = (none_totalled _ _ _, omega arith)

pub loop-a-preserved : goal.loop-a-preserved
loop-a-preserved c = (
  one_totalled _ c.loop-a-test.true (rw c.loop-a.invariant.1 at c.pairs_with-total.ensures.value, c.pairs_with-total.ensures.size) c.loop-a.invariant.0,
  let d = add-mul c.loop-a.a 1 c.args.n in omega (arith, c.loop-a.invariant.1),
)
