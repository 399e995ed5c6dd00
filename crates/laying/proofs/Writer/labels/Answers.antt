use Rattle.std.proofs.Common.{rules, sym, ap, ap₂, ◌∙◌, ◌+◌, arith, ℤ, pos, to_z-of_z, w64}
use mir.Facts.{to_z_pos}
use Rattle.integers.specs.Number.{◌⊕◌}
use Rattle.integers.proofs.Fits.{back}
use Rattle.words.specs.Word.{in_range}
use Rattle.laying.specs.Lists.{label_at}
use Rattle.laying.proofs.Counts.{sized-label, sized-many}
use Rattle.laying.proofs.Written.{wrote-counted}
use Rattle.laying.proofs.Writer.labels.Goals as goal

pub returns-then-in_range-2 : goal.returns-then-in_range-2
returns-then-in_range-2 c =
    let first = sym (ap in_range (to_z-of_z c.ranges.from)) ∙ sym c.in_range.ensures ∙ c.if-in_range.true in
    let sum = back c.plus.result c.plus.type_inv ∙ c.plus.ensures.value ∙ ap₂ (λ (a b : ℤ). a ⊕ b) (to_z-of_z c.ranges.from) (to_z_pos w64 {n = c.args.n} (omega arith)) in
    let past = sym (ap in_range sum) ∙ sym c.in_range-then-in_range.ensures ∙ c.if-in_range-2.true in
    wrote-counted (sized-many (label_at c.args.from c.args.v) 2 0 0 c.args.n (sized-label c.args.from c.args.v c.args.n first past)) (omega arith, omega arith, omega arith) c.if-self.true c.count.ensures.counts c.count.ensures.same

pub returns : goal.returns
returns c = c.terms.ensures (λ k. c.args.from ⊕ pos k) (λ k. c.args.v + k) (λ k r h p. search rules) (λ k r h p. search rules)
