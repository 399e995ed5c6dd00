use Rattle.std.proofs.Common.{to_z-of_z}
use mathlib.Core.List.{flat_map}
use Rattle.rules.specs.Block.{numbered}
use Rattle.laying.specs.Part.{bound_parts, term_parts, row_parts, block_parts}
use Rattle.laying.specs.Lists.{many, row_parts_of}
use Rattle.rules.specs.Rule.{where_one, where_zero, order_reified}
use Rattle.laying.proofs.Written.{wrote-then}
use Rattle.fixedblocks.proofs.compare.order_reif.Goals as goal

-- Two rows, one after the other.
pub returns : goal.returns
unfolding where_one where_zero order_reified block_parts bound_parts flat_map row_parts term_parts numbered row_parts_of many
returns c = λ first. wrote-then (rw (to_z-of_z c.ranges.d) at c.where_bit.ensures) (rw (to_z-of_z c.ranges.e) at c.where_bit-2.ensures)
