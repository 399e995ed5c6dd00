use Rattle.flatnames.proofs.Steps as steps
use Rattle.flatnames.proofs.laws.drops_nothing.Goals as goal

pub returns : goal.returns
returns c = steps.drops_nothing
