use Rattle.std.proofs.Common.{to_z-of_z}
use Rattle.laying.proofs.Written.{wrote-then}
use Rattle.choiceblocks.specs.Rows.{sum_row}
use Rattle.choiceblocks.proofs.rows.label_row.Goals as goal

pub returns : goal.returns
unfolding sum_row
returns c = wrote-then c.head.ensures (wrote-then (rw (to_z-of_z c.ranges.from) at c.labels.ensures) c.row_end.ensures)
