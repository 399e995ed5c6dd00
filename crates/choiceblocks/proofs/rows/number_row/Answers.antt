use Rattle.std.proofs.Common.{rules, ◌+◌}
use Rattle.models.specs.Model.{num}
use Rattle.choiceblocks.proofs.rows.number_row.Goals as goal

pub returns : goal.returns
returns c = c.sum_row.ensures (λ k. num c.args.args.now (c.args.base + k)) (λ k. c.args.v + k) (λ k r h p. search rules) (λ k r h p. search rules)
