use Rattle.std.proofs.Common.{rules, refl, sym, ◌∙◌, ◌+◌, arith, to_z-of_z}
use Rattle.laying.specs.Lists.{same_at}
use Rattle.laying.proofs.Counts.{sized-term, sized-many}
use Rattle.laying.proofs.Written.{wrote-laid}
use Rattle.laying.proofs.Writer.same.Goals as goal

pub returns-then-n-self : goal.returns-then-n-self
returns-then-n-self c =
    let fits = rw (to_z-of_z c.ranges.c) at (sym c.in_range.ensures ∙ c.if-in_range.true) in
    wrote-laid (sized-many (same_at c.args.c c.args.v) 2 0 0 c.args.n (λ k h. sized-term _ _ fits)) (omega arith, omega arith, omega arith) c.count.ensures.counts
    (rw c.count.ensures.same (rw (to_z-of_z c.ranges.c) at c.put_same.ensures)) (rw c.count.ensures.same refl)

pub returns : goal.returns
returns c = rw (to_z-of_z c.ranges.c) at (c.multiples.ensures (λ k. c.args.v + k) (λ k r h p. search rules))
