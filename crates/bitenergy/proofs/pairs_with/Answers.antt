use Rattle.bitenergy.proofs.Pairs.{none_totalled, one_totalled, pair_is}
use Rattle.bitenergy.proofs.pairs_with.Goals as goal

pub loop-b-init : goal.loop-b-init
loop-b-init c = none_totalled _ _ _

pub loop-b-preserved : goal.loop-b-preserved
loop-b-preserved c =
    let e = rw (c.at.ensures, c.at-in-loop-b.ensures, c.at-in-loop-b-2.ensures) at c.pair_energy-total.ensures.value in
    one_totalled _ c.loop-b-test.true (pair_is c.args.bits.now.bytes.now _ _ _ _ e, c.pair_energy-total.ensures.size) c.loop-b.invariant
