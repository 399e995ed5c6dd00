-- No number stands in the list, so none is too large; a width below 2^62 has at most 62 weights.
use Rattle.std.proofs.Common.{arith, rules}
use Rattle.bitlines.specs.Dense.{peak}
use Rattle.bittables.proofs.Counting.{few-weights}
use Rattle.bittables.proofs.weight_count.Goals as goal

pub add_weights-requires : goal.add_weights-requires
unfolding peak
add_weights-requires c = search rules

pub returns : goal.returns
returns c = record { value = search rules; few = omega (arith, c.add_weights.ensures.0, few-weights c.args.width c.requires) }
