use Rattle.std.proofs.Common.{add-zero, arith}
use mathlib.Core.List.{flat_map}
use Rattle.integers.proofs.Fits.{back}
use Rattle.rules.specs.Block.{numbered}
use Rattle.laying.specs.Part.{bound_parts, term_parts, row_parts, block_parts}
use Rattle.laying.specs.Lists.{many, row_parts_of}
use Rattle.rules.specs.Parts.{Z}
use Rattle.rules.specs.Rule.{rule, only_negative, absolute}
use Rattle.laying.proofs.Written.{wrote-then}
use Rattle.fixedblocks.proofs.number.int_abs.Goals as goal

-- A bit, the bounds Z(x), a product and three rows, one after the other.
pub returns : goal.returns
unfolding rule only_negative absolute Z block_parts bound_parts flat_map row_parts term_parts numbered row_parts_of many
returns c = λ β e. rw (add-zero c.args.first) (wrote-then c.bound.ensures (wrote-then (rw (← e) at c.zero_bound.ensures) (wrote-then c.times.ensures (wrote-then c.three_terms.ensures (wrote-then (simp c.new.ensures at c.row.ensures) (rw (back c.args.bounds.upper (omega (arith, c.requires.1)), ← e) at c.only_negative.ensures))))))
