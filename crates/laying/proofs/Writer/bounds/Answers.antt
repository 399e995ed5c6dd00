use Rattle.std.proofs.Common.{◌≡◌, refl, arith, rules}
use Rattle.integers.proofs.Fits.{back}
use Rattle.laying.proofs.Counts.{sized-bounds}
use Rattle.laying.proofs.Written.{wrote-counted, writing-none, writing-more}
use Rattle.laying.proofs.Writer.bounds.Goals as goal

pub returns-then-self : goal.returns-then-self
returns-then-self g c = λ l u p q. wrote-counted (sized-bounds l u c.args.n) (omega arith, omega arith, omega arith) c.if-self.true (rw (c.all_fit-lowers.ensures l p, c.all_fit-uppers.ensures u q) at c.count.ensures.counts) c.count.ensures.same

pub loop-k-init : goal.loop-k-init
loop-k-init g c = λ l u p q. writing-none _ _

pub loop-k-preserved : goal.loop-k-preserved
loop-k-preserved g c = λ l u p q. writing-more (c.loop-k.invariant l u p q) (rw (back c.lower.result c.lower.type_inv, back c.upper.result c.upper.type_inv, p c.loop-k.k _ c.loop-k-test.true c.lower.ensures, q c.loop-k.k _ c.loop-k-test.true c.upper.ensures) at c.bound.ensures)

pub returns : goal.returns
returns g c = λ l u p q.
    let all : c.loop-k.k ≡ c.args.n = omega (arith, c.loop-k-test.false) in
    let went = rw all at (c.loop-k.invariant l u p q).went in
    record { parts = λ h. let parts = went.parts h in search (rules, parts, went.list); list = refl }
