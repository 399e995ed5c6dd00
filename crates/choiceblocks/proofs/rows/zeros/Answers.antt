use Rattle.std.proofs.Common.{rules, ◌+◌}
use Rattle.integers.specs.Number.{min_z, max_z, +0}
use Rattle.models.specs.Model.{var}
use Rattle.choiceblocks.proofs.rows.zeros.Goals as goal

pub returns : goal.returns
returns g c = λ β p q. c.bounds.ensures (λ k. min_z +0 (β (var c.args.args.now (c.args.base + k))).lower) (λ k. max_z +0 (β (var c.args.args.now (c.args.base + k))).upper) (λ k r h s. search rules) (λ k r h s. search rules)
