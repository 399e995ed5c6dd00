use Rattle.std.proofs.Common.{rules, arith}
use Rattle.integers.specs.Number.{+0, +1}
use Rattle.laying.proofs.Counts.{sized-bit}
use Rattle.laying.proofs.Written.{wrote-many}
use Rattle.laying.proofs.Writer.bits.Goals as goal

pub returns-then-self : goal.returns-then-self
returns-then-self c = wrote-many _ c.args.n 2 1 0 sized-bit (omega arith, omega arith, omega arith) c.if-self.true c.count.ensures.counts c.count.ensures.same

pub returns : goal.returns
returns c = c.bounds.ensures (λ k. +0) (λ k. +1) (λ k r h p. search rules) (λ k r h p. search rules)
