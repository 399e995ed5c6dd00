use Rattle.std.proofs.Common.{rules, sym, ap, ◌∙◌, arith, to_z-of_z}
use Rattle.words.specs.Word.{in_range}
use Rattle.laying.proofs.Counts.{sized-term}
use Rattle.laying.proofs.Written.{wrote-many}
use Rattle.laying.proofs.Writer.multiples.Goals as goal

pub returns-then-in_range : goal.returns-then-in_range
returns-then-in_range g c =
    let fits = sym (ap in_range (to_z-of_z c.ranges.c)) ∙ sym c.in_range.ensures ∙ c.if-in_range.true in
    λ v q. wrote-many _ c.args.n 2 0 0 (λ k. sized-term _ _ fits) (omega arith, omega arith, omega arith) c.if-self.true c.count.ensures.counts c.count.ensures.same

pub returns : goal.returns
returns g c = λ v q. c.terms.ensures (λ k. c.args.c) v (λ k r h p. search rules) q
