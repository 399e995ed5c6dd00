use Rattle.std.proofs.Common.{◌≡◌, arith}
use Rattle.bitenergy.proofs.PairValues.{pair_zero, pair_one}
use Rattle.bitenergy.proofs.pair_energy.Goals as goal

pub returns-then-t-eq0-clause-value : goal.returns-then-t-eq0-clause-value
returns-then-t-eq0-clause-value c = rw c.if-t-eq0.true (pair_zero c.args.u c.args.v c.requires.0 c.requires.1)

pub returns-clause-value : goal.returns-clause-value
returns-clause-value c =
    let e : c.args.t ≡ 1 = omega (arith, c.if-t-eq0.false, c.requires.2) in
    rw e (pair_one c.args.u c.args.v c.requires.0 c.requires.1)
