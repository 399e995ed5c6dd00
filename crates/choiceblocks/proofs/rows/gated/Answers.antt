use Rattle.laying.proofs.Written.{wrote-then}
use Rattle.choiceblocks.specs.Rows.{gated_rows}
use Rattle.choiceblocks.proofs.rows.gated.Goals as goal

pub returns : goal.returns
unfolding gated_rows
returns c = wrote-then c.products.ensures c.one_row.ensures
