-- A head, the terms and the constant are the parts of the row.
use Rattle.std.proofs.Common.{◌∙◌}
use Rattle.models.specs.Model.{terms}
use Rattle.rules.specs.Parts.{sources}
use Rattle.rules.proofs.Lengths.{sources-length}
use Rattle.laying.proofs.Lists.{length-terms, terms-parts}
use Rattle.linearblocks.proofs.Rows.{row-wrote}
use Rattle.linearblocks.proofs.sums.write_sum.Goals as goal

pub returns : goal.returns
returns c =
    λ first. row-wrote first (sources (terms c.args.args.now 0)) (sources-length (terms c.args.args.now 0) ∙ length-terms c.args.args.now 0) (terms-parts first c.args.args.now 0) (rw c.size_at.ensures.value at c.head.ensures) c.sum.ensures c.write_minus_constant.ensures
