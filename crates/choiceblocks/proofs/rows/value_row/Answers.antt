use Rattle.std.proofs.Common.{rules, ◌+◌, get_or}
use Rattle.integers.specs.Number.{+0}
use Rattle.choiceblocks.proofs.rows.value_row.Goals as goal

pub returns : goal.returns
returns c = c.sum_row.ensures (λ k. get_or c.args.vs.now k +0) (λ k. c.args.v + k) (λ k r h p. search rules) (λ k r h p. search rules)
