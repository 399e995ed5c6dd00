use Rattle.std.proofs.Common.{add-zero}
use Rattle.std.proofs.Common.{rules}
use Rattle.integers.proofs.Fits.{back}
use mathlib.Core.List.{flat_map}
use Rattle.rules.specs.Block.{numbered}
use Rattle.laying.specs.Part.{bound_parts, term_parts, row_parts, block_parts}
use Rattle.laying.specs.Lists.{many, row_parts_of}
use Rattle.rules.specs.Parts.{◌─◌=0}
use Rattle.rules.specs.Rule.{rule}
use Rattle.laying.proofs.Written.{wrote-then}
use Rattle.fixedblocks.proofs.number.int_times.Goals as goal

-- The end products as bounds, a product and a row, one after the other.
pub returns : goal.returns
unfolding rule ◌─◌=0 block_parts bound_parts flat_map row_parts term_parts numbered row_parts_of many
returns c = rw (add-zero c.args.first) (wrote-then (rw (back c.end_products-ends.result.lower (search rules), back c.end_products-ends.result.upper (search rules), c.end_products-ends.ensures.value, c.domain_of.ensures, c.domain_of-2.ensures) at c.bound.ensures) (wrote-then c.times.ensures c.two_terms.ensures))
