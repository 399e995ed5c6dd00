use mathlib.Core.List.{flat_map}
use Rattle.rules.specs.Block.{numbered}
use Rattle.laying.specs.Part.{bound_parts, term_parts, row_parts, block_parts}
use Rattle.laying.specs.Lists.{many, row_parts_of}
use Rattle.rules.specs.Parts.{◌─◌≤0}
use Rattle.rules.specs.Rule.{rule}
use Rattle.laying.proofs.Written.{wrote-then}
use Rattle.fixedblocks.proofs.boolean.bool_le_reif.Goals as goal

-- Three rows, one after the other.
pub returns : goal.returns
unfolding rule ◌─◌≤0 block_parts bound_parts flat_map row_parts term_parts numbered row_parts_of many
returns c = λ β first. wrote-then (simp (c.new.ensures, c.new-2.ensures) at c.row.ensures) (wrote-then c.two_terms.ensures c.three_terms.ensures)
