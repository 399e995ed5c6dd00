-- A refusal has a number that is not 0, and these words are accepted.
use Rattle.std.proofs.Common.{ap, ◌∙◌}
use Rattle.words.specs.Refusals.{Refusal}
use Rattle.words.proofs.Faulty.{fault-number}
use Rattle.rowreading.specs.Item.{start_due}
use Rattle.reasoning.proofs.rows.first_false_row.Goals as goal

pub unreachable-requires : goal.unreachable-requires
unfolding start_due
unreachable-requires c = fault-number _ (ap (λ (r : Refusal). r.number) ((rw c.in-Err.is at c.judge_on.ensures.reads) ∙ c.requires.2))
