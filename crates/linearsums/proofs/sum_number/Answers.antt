-- A number is near 0.
use Rattle.arguments.proofs.Size.{read, num-size}
use Rattle.linearsums.proofs.sum_number.Goals as goal

pub returns-clause-near : goal.returns-clause-near
returns-clause-near c = rw (read c.num_at.type_inv c.num_at.ensures.value) (num-size _ _)
