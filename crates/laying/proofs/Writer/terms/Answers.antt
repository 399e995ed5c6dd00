use Rattle.std.proofs.Common.{◌≡◌, refl, arith, rules}
use Rattle.integers.proofs.Fits.{back}
use Rattle.laying.proofs.Counts.{sized-any, sized-listed}
use Rattle.laying.proofs.Written.{wrote-counted, writing-none, writing-more}
use Rattle.laying.proofs.Writer.terms.Goals as goal

pub returns-then-self : goal.returns-then-self
returns-then-self g c = λ n v p q. wrote-counted (sized-listed _ n 2 0 0 c.args.n (λ k. sized-any (n k) (v k))) (omega arith, omega arith, omega arith) c.if-self.true (rw (c.all_fit-fit.ensures n p) at c.count.ensures.counts) c.count.ensures.same

pub loop-k-init : goal.loop-k-init
loop-k-init g c = λ n v p q. writing-none _ _

pub loop-k-preserved : goal.loop-k-preserved
loop-k-preserved g c = λ n v p q. writing-more (c.loop-k.invariant n v p q) (rw (back c.coefficient.result c.coefficient.type_inv, p c.loop-k.k _ c.loop-k-test.true c.coefficient.ensures, q c.loop-k.k _ c.loop-k-test.true c.variable.ensures) at c.term.ensures)

pub returns : goal.returns
returns g c = λ n v p q.
    let all : c.loop-k.k ≡ c.args.n = omega (arith, c.loop-k-test.false) in
    let went = rw all at (c.loop-k.invariant n v p q).went in
    record { parts = λ h. let parts = went.parts h in search (rules, parts, went.list); list = refl }
