use Rattle.laying.proofs.Written.{wrote-then}
use Rattle.choiceblocks.specs.Rows.{one_row}
use Rattle.choiceblocks.proofs.rows.one_bit.Goals as goal

pub returns : goal.returns
unfolding one_row
returns c = wrote-then c.head.ensures (wrote-then c.same.ensures c.constant.ensures)
