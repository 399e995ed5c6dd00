-- A list has at most 32 elements.
use Rattle.arguments.proofs.Size.{size-le}
use Rattle.linearsums.proofs.sum_size.Goals as goal

pub returns-in-Some-OfTerms-clause-few : goal.returns-in-Some-OfTerms-clause-few
returns-in-Some-OfTerms-clause-few c = rw c.size_at.ensures.value (size-le c.args.ws.now c.args.a)
