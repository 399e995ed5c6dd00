use Rattle.std.proofs.Common.{rules, ◌+◌}
use Rattle.models.specs.Model.{var, num, past}
use Rattle.laying.proofs.Writer.sum.Goals as goal

pub returns : goal.returns
returns c = rw (← c.size_at.ensures.value) (c.terms.ensures (λ k. num c.args.args.now (c.args.i + 1 + k)) (λ k. var c.args.args.now (past c.args.args.now c.args.i + k)) (λ k r h p. search rules) (λ k r h p. search rules))
