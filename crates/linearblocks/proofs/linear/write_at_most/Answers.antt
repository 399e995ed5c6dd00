-- Two rows of given terms.
use Rattle.std.proofs.Common.{add-zero, rules}
use mathlib.Core.List.{flat_map}
use Rattle.integers.proofs.Fits.{back}
use Rattle.arguments.proofs.Size.{read}
use Rattle.rules.specs.Block.{numbered}
use Rattle.laying.specs.Part.{term_parts, row_parts}
use Rattle.laying.specs.Lists.{many, row_parts_of}
use Rattle.linearblocks.specs.Rows.{at_most_rows}
use Rattle.laying.proofs.Written.{wrote-then}
use Rattle.linearblocks.proofs.linear.write_at_most.Goals as goal

pub returns : goal.returns
unfolding at_most_rows flat_map row_parts term_parts numbered row_parts_of many
returns c =
    let d = rw (c.new.ensures, c.new-2.ensures, read c.opposite.type_inv c.opposite.ensures.value, back c.args.sum.upper (search rules)) at c.row.ensures in
    let e = rw (c.new-3.ensures, c.new-4.ensures, read c.minus.type_inv c.minus.ensures.value, back c.args.sum.lower (search rules)) at c.row-2.ensures in
    rw (add-zero c.args.first) (wrote-then d e)
