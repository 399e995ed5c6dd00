-- Two rows of given terms.
use Rattle.std.proofs.Common.{add-zero, to_z-of_z}
use mathlib.Core.List.{flat_map}
use Rattle.rules.specs.Block.{numbered}
use Rattle.laying.specs.Part.{term_parts, row_parts}
use Rattle.laying.specs.Lists.{many, row_parts_of}
use Rattle.linearblocks.specs.Rows.{size_rows}
use Rattle.laying.proofs.Written.{wrote-then}
use Rattle.linearblocks.proofs.linear.write_size.Goals as goal

pub returns : goal.returns
unfolding size_rows flat_map row_parts term_parts numbered row_parts_of many
returns c =
    let d = rw (c.new.ensures, c.new-2.ensures, c.new-3.ensures, to_z-of_z c.ranges.p, to_z-of_z c.ranges.q) at c.row.ensures in
    let e = rw (c.new-4.ensures, c.new-5.ensures, c.new-6.ensures, to_z-of_z c.ranges.u, to_z-of_z c.ranges.v) at c.row-2.ensures in
    rw (add-zero c.args.first) (wrote-then d e)
