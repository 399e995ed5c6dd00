use Rattle.laying.proofs.Written.{wrote-then}
use Rattle.choiceblocks.proofs.rows.row_end.Goals as goal

pub returns : goal.returns
returns c = wrote-then c.term.ensures c.constant.ensures
