-- The bounds of x, then the row.
use Rattle.std.proofs.Common.{append-nil, rules}
use mathlib.Core.List.{flat_map}
use Rattle.integers.proofs.Fits.{back}
use Rattle.laying.specs.Part.{bound_parts, row_parts, block_parts}
use Rattle.linearblocks.specs.Rows.{link, bounded_sum}
use Rattle.laying.proofs.Written.{wrote-then}
use Rattle.linearblocks.proofs.sums.write_bounded_sum.Goals as goal

pub returns : goal.returns
unfolding block_parts bound_parts flat_map bounded_sum
returns c =
    let d = rw (back c.args.sum.lower (search rules), back c.args.sum.upper (search rules)) at c.bound.ensures in
    rw (append-nil (row_parts c.args.first (link c.args.args.now))) (wrote-then d c.write_link.ensures)
