-- A number is near 0.
use Rattle.arguments.proofs.Size.{read, num-size}
use Rattle.linearsums.proofs.sum_constant.Goals as goal

pub returns-then-eq-clause-near : goal.returns-then-eq-clause-near
returns-then-eq-clause-near c = rw (read c.num_at.type_inv c.num_at.ensures.value) (num-size _ _)
