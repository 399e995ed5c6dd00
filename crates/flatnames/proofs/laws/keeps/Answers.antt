use Rattle.flatnames.proofs.Steps as steps
use Rattle.flatnames.proofs.laws.keeps.Goals as goal

pub returns : goal.returns
returns c = steps.keeps
