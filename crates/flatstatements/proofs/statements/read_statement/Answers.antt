-- By the law of what is read.
use Rattle.flatstatements.proofs.Printed.{is_spelled}
use Rattle.flatstatements.proofs.statements.read_statement.Goals as goal

pub returns-clause-spelled : goal.returns-clause-spelled
returns-clause-spelled c = is_spelled _ _ c.whole.ensures
