use Rattle.std.proofs.Common.{◌≡◌, refl, arith}
use Rattle.integers.specs.Lists.{all, list_of}
use Rattle.integers.proofs.Fits.{back}
use Rattle.integers.proofs.Places.{all_more}
use Rattle.laying.proofs.terms.all_fit.Goals as goal

pub loop-k-init : goal.loop-k-init
unfolding all list_of
loop-k-init g c = λ n p. refl

pub loop-k-preserved : goal.loop-k-preserved
loop-k-preserved g c = λ n p. rw (all_more, c.loop-k.invariant n p, c.in_range-fit.ensures, back c.number.result c.number.type_inv, p c.loop-k.k _ c.loop-k-test.true c.number.ensures) refl

pub returns : goal.returns
returns g c = λ n p. let e : c.loop-k.k ≡ c.args.n = omega (arith, c.loop-k-test.false) in rw e at c.loop-k.invariant n p
