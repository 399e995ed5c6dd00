use Rattle.rowsystems.proofs.Sizes.{count-few}
use Rattle.bitrows.proofs.sum_terms.Goals as goal

pub returns-clause-few : goal.returns-clause-few
returns-clause-few c = rw c.term_count.ensures (count-few _)
