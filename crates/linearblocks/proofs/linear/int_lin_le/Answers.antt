-- The block is one row.
use Rattle.rules.specs.Rule.{rule}
use Rattle.laying.specs.Part.{row_parts}
use Rattle.laying.proofs.Written.{wrote-as}
use Rattle.linearblocks.proofs.Rows.{one-row}
use Rattle.linearblocks.proofs.linear.int_lin_le.Goals as goal

pub returns : goal.returns
unfolding rule row_parts
returns c = λ first β. wrote-as (one-row first _) (c.write_sum.ensures first)
