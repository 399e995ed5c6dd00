-- The place after a list of at most 32 elements is small.
use Rattle.std.proofs.Common.{arith}
use Rattle.models.specs.Model.{past}
use Rattle.arguments.proofs.Size.{size-le}
use Rattle.linearsums.proofs.sum_variable.Goals as goal

pub overflow_add-past_at : goal.overflow_add-past_at
unfolding past
overflow_add-past_at c =
    rw c.past_at.ensures.value (omega (arith, size-le c.args.ws.now c.args.a, c.requires.0, c.requires.1))
