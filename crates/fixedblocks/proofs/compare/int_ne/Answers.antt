use Rattle.std.proofs.Common.{add-zero}
use mathlib.Core.List.{flat_map}
use Rattle.rules.specs.Block.{numbered}
use Rattle.laying.specs.Part.{bound_parts, term_parts, row_parts, block_parts}
use Rattle.laying.specs.Lists.{many, row_parts_of}
use Rattle.rules.specs.Rule.{rule, where_one, where_zero}
use Rattle.laying.proofs.Written.{wrote-then}
use Rattle.fixedblocks.proofs.compare.int_ne.Goals as goal

-- A bit and two rows, one after the other.
pub returns : goal.returns
unfolding rule where_one where_zero block_parts bound_parts flat_map row_parts term_parts numbered row_parts_of many
returns c = rw (add-zero c.args.first) (wrote-then c.bound.ensures (wrote-then c.where_bit.ensures c.where_bit-2.ensures))
