use Rattle.laying.proofs.Written.{wrote-then}
use Rattle.choiceblocks.specs.Rows.{sum_row}
use Rattle.choiceblocks.proofs.rows.sum_row.Goals as goal

pub returns : goal.returns
unfolding sum_row
returns g c = λ n v p q. wrote-then c.head.ensures (wrote-then (c.terms.ensures n v p q) c.row_end.ensures)
