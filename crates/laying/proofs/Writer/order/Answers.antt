use Rattle.std.proofs.Common.{◌≡◌, refl, arith, rules}
use Rattle.laying.specs.Lists.{order_at}
use Rattle.laying.proofs.Counts.{sized-pair, sized-many}
use Rattle.laying.proofs.Written.{wrote-many, wrote-laid, writing-none, writing-more}
use Rattle.laying.proofs.Writer.order.Goals as goal

pub returns-then-self : goal.returns-then-self
returns-then-self c = wrote-many _ c.args.n 6 0 1 (λ k. sized-pair _ _ _) (omega arith, omega arith, omega arith) c.if-self.true c.count.ensures.counts c.count.ensures.same

pub returns-then-n-self : goal.returns-then-n-self
returns-then-n-self c =
    wrote-laid (sized-many (order_at c.args.args.now c.args.base c.args.m c.args.up) 6 0 1 c.args.n (λ k h. sized-pair _ _ _)) (omega arith, omega arith, omega arith) c.count-then-n-self.ensures.counts
    (rw c.count-then-n-self.ensures.same c.put_order.ensures) (rw c.count-then-n-self.ensures.same refl)

pub loop-k-init : goal.loop-k-init
loop-k-init c = writing-none _ _

pub loop-k-preserved : goal.loop-k-preserved
loop-k-preserved c = writing-more c.loop-k.invariant (simp (c.new.ensures, c.new-in-loop-k.ensures, c.first_if.ensures, c.first_if-in-loop-k.ensures, c.var_at-x.ensures) at c.row.ensures)

pub returns : goal.returns
returns c =
    let all : c.loop-k.k ≡ c.args.n = omega (arith, c.loop-k-test.false) in
    let went = rw all at c.loop-k.invariant.went in
    record { parts = λ h. let parts = went.parts h in search (rules, parts, went.list); list = refl }
