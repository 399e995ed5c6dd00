-- A width below 2^28 has few weights.
use Rattle.std.proofs.Common.{arith}
use Rattle.bittables.specs.BitTables.{span_in}
use Rattle.bittables.proofs.Counting.{few-weights}
use Rattle.bittables.proofs.table.count_at.Goals as goal

pub returns-clause-few : goal.returns-clause-few
returns-clause-few c =
    let few = few-weights (span_in c.args.domains.now c.args.v) (omega (arith, c.span_at.ensures.value, c.span_at.ensures.size)) in
    omega (arith, c.bits_at.ensures.count, c.requires c.args.v, few)
