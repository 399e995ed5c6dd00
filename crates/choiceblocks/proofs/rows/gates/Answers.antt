use Rattle.laying.proofs.Written.{wrote-then}
use Rattle.choiceblocks.specs.Rows.{gates}
use Rattle.choiceblocks.proofs.rows.gates.Goals as goal

pub returns : goal.returns
unfolding gates
returns g c = λ β p q. wrote-then c.bits.ensures (c.zeros.ensures β p q)
