use Rattle.std.proofs.Common.{add-zero}
use mathlib.Core.List.{flat_map}
use Rattle.rules.specs.Block.{numbered}
use Rattle.laying.specs.Part.{bound_parts, term_parts, row_parts, block_parts}
use Rattle.laying.specs.Lists.{many, row_parts_of}
use Rattle.rules.specs.Parts.{◌─◌≤0}
use Rattle.rules.specs.Rule.{where_one, where_zero, touching}
use Rattle.laying.proofs.Written.{wrote-then}
use Rattle.fixedblocks.proofs.number.touching.Goals as goal

-- A bit and five rows, one after the other.
pub returns : goal.returns
unfolding where_one where_zero touching ◌─◌≤0 block_parts bound_parts flat_map row_parts term_parts numbered row_parts_of many
returns c = rw (add-zero c.args.first) (wrote-then c.bound.ensures (wrote-then c.two_terms.ensures (wrote-then c.two_terms-2.ensures (wrote-then c.where_bit.ensures (wrote-then c.where_bit-2.ensures c.where_bit-3.ensures)))))
