use mathlib.Core.List.{flat_map}
use Rattle.rules.specs.Block.{numbered}
use Rattle.laying.specs.Part.{bound_parts, term_parts, row_parts, block_parts}
use Rattle.laying.specs.Lists.{many, row_parts_of}
use Rattle.rules.specs.Parts.{◌─◌=0}
use Rattle.rules.specs.Rule.{rule}
use Rattle.fixedblocks.proofs.compare.int_eq.Goals as goal

-- A row of two terms.
pub returns : goal.returns
unfolding rule ◌─◌=0 block_parts bound_parts flat_map row_parts term_parts numbered row_parts_of many
returns c = λ β first. c.two_terms.ensures
