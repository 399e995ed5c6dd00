-- What stands ahead of nothing is blanks.
use Rattle.decimals.proofs.Ahead.{ahead-blanks}
use Rattle.decimals.proofs.Page.blanks.Goals as goal

pub returns-clause-text : goal.returns-clause-text
returns-clause-text c = rw ahead-blanks at c.ahead.ensures.text
