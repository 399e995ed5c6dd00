-- The terms, then the slack's weights; the row stays below 2^63.
use Rattle.std.proofs.Common.{◌∙◌}
use Rattle.bittables.specs.BitTables.{firsts}
use Rattle.bitfilling.proofs.Filling.{slacked_added}
use Rattle.bitfilling.proofs.add_slacked.Goals as goal

pub returns : goal.returns
returns c =
    c.add_weights.ensures.1 ∙ rw (c.slack_of.ensures.value, c.add_terms.ensures.sum) (slacked_added c.args.row.now c.args.table.now.domains.now (firsts c.args.table.now.bits.now) c.args.first _ _)
