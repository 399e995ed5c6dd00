-- A head, the terms, x and the constant are the parts of the row.
use Rattle.std.proofs.Common.{[], ◌∷◌, ◌++◌, add-zero, length-append}
use Rattle.integers.specs.Number.{ -1}
use Rattle.integers.specs.Terms.{◌·◌}
use Rattle.models.specs.Model.{terms}
use Rattle.rules.specs.Block.{aux, numbered}
use Rattle.rules.specs.Parts.{sources}
use Rattle.laying.specs.Part.{row_parts}
use Rattle.rules.proofs.Lengths.{sources-length}
use Rattle.laying.proofs.Lists.{length-terms, terms-parts}
use Rattle.linearblocks.specs.Rows.{link}
use Rattle.laying.proofs.Written.{wrote-then}
use Rattle.linearblocks.proofs.Rows.{row-wrote, last-term}
use Rattle.linearblocks.proofs.sums.write_link.Goals as goal

pub returns : goal.returns
unfolding row_parts link numbered
returns c =
    row-wrote c.args.first (sources (terms c.args.args.now 0) ++ (-1 · aux 0 ∷ [])) (simp (length-append, sources-length, length-terms)) (last-term c.args.first (sources (terms c.args.args.now 0)) (-1 · aux 0) (terms-parts c.args.first c.args.args.now 0)) (rw c.size_at.ensures.value at c.head.ensures) (wrote-then c.sum.ensures (rw (add-zero c.args.first) c.term.ensures)) c.write_minus_constant.ensures
