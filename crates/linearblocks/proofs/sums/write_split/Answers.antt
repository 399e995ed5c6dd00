-- Three bounds, a row and a product, one after the other.
use Rattle.std.proofs.Common.{add-zero, rules}
use mathlib.Core.List.{flat_map}
use Rattle.integers.proofs.Fits.{back}
use Rattle.arguments.proofs.Size.{read}
use Rattle.rules.specs.Block.{numbered}
use Rattle.rules.specs.Parts.{Z}
use Rattle.laying.specs.Part.{bound_parts, row_parts, block_parts}
use Rattle.linearblocks.specs.Rows.{split}
use Rattle.laying.proofs.Written.{wrote-then}
use Rattle.linearblocks.proofs.sums.write_split.Goals as goal

pub returns : goal.returns
unfolding block_parts bound_parts flat_map split Z row_parts numbered
returns c =
    let l = back c.args.sum.lower (search rules) in
    let u = back c.args.sum.upper (search rules) in
    let x = rw (l, u) at c.bound.ensures in
    let z = rw (read c.zero_lower.type_inv c.zero_lower.ensures, read c.zero_upper.type_inv c.zero_upper.ensures, l, u) at c.bound-3.ensures in
    rw (add-zero c.args.first) (wrote-then x (wrote-then c.bound-2.ensures (wrote-then z (wrote-then c.write_link.ensures c.times.ensures))))
