use Rattle.std.proofs.Common.{to_z-of_z}
use Rattle.laying.proofs.Written.{wrote-then}
use Rattle.choiceblocks.specs.Rows.{choice_rows}
use Rattle.choiceblocks.proofs.rows.choice.Goals as goal

pub returns : goal.returns
unfolding choice_rows
returns c = wrote-then c.one_bit.ensures (rw (to_z-of_z c.ranges.from) at c.label_row.ensures)
