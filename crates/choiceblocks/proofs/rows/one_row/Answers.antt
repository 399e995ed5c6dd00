use Rattle.laying.proofs.Written.{wrote-then}
use Rattle.choiceblocks.specs.Rows.{sum_row}
use Rattle.choiceblocks.proofs.rows.one_row.Goals as goal

pub returns : goal.returns
unfolding sum_row
returns c = wrote-then c.head.ensures (wrote-then c.same.ensures c.row_end.ensures)
