use Rattle.std.proofs.Common.{◌≡◌, refl, arith, rules}
use Rattle.laying.proofs.Counts.{sized-times}
use Rattle.laying.proofs.Written.{wrote-many, writing-none, writing-more}
use Rattle.laying.proofs.Writer.products.Goals as goal

pub returns-then-self : goal.returns-then-self
returns-then-self c = wrote-many _ c.args.n 4 0 1 (λ k. sized-times _ _ _) (omega arith, omega arith, omega arith) c.if-self.true c.count.ensures.counts c.count.ensures.same

pub loop-k-init : goal.loop-k-init
loop-k-init c = writing-none _ _

pub loop-k-preserved : goal.loop-k-preserved
loop-k-preserved c = writing-more c.loop-k.invariant (simp c.var_at.ensures at c.times.ensures)

pub returns : goal.returns
returns c =
    let all : c.loop-k.k ≡ c.args.n = omega (arith, c.loop-k-test.false) in
    let went = rw all at c.loop-k.invariant.went in
    record { parts = λ h. let parts = went.parts h in search (rules, parts, went.list); list = refl }
