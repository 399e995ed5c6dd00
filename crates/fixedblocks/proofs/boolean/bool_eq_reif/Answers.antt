use Rattle.std.proofs.Common.{add-zero}
use mathlib.Core.List.{flat_map}
use Rattle.rules.specs.Block.{numbered}
use Rattle.laying.specs.Part.{bound_parts, term_parts, row_parts, block_parts}
use Rattle.laying.specs.Lists.{many, row_parts_of}
use Rattle.rules.specs.Parts.{◌─◌=0}
use Rattle.rules.specs.Rule.{rule, same_rows, same_reified}
use Rattle.laying.proofs.Written.{wrote-then}
use Rattle.fixedblocks.proofs.boolean.bool_eq_reif.Goals as goal

-- Two bits, two products and two rows, one after the other.
pub returns : goal.returns
unfolding rule same_rows same_reified ◌─◌=0 block_parts bound_parts flat_map row_parts term_parts numbered row_parts_of many
returns c = rw (add-zero c.args.first) (λ β. (wrote-then c.two_products.ensures (wrote-then c.two_terms.ensures (simp (c.new.ensures, c.new-2.ensures, c.new-3.ensures, c.new-4.ensures, c.new-5.ensures) at c.row.ensures))))
