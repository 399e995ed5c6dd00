-- By the variable's first bit and its width.
use Rattle.std.proofs.Common.{to_z-of_z}
use Rattle.bittables.specs.BitTables.{firsts}
use Rattle.bitrows.proofs.Over.{variable-added}
use Rattle.bitrows.proofs.add_variable.Goals as goal

pub returns : goal.returns
returns c =
    variable-added c.args.row.now c.args.table.now.domains.now (firsts c.args.table.now.bits.now) c.args.v c.args.k c.span_at.ensures.size c.requires.0 c.bits_at.ensures.first c.span_at.ensures.value
    (rw (to_z-of_z c.ranges.k) at c.add_weights.ensures.1)
