-- The table's entry for the code.
use Rattle.models.specs.Meaning.{meaning}
use Rattle.models.specs.Model.{builtin, builtins}
use Rattle.builtins.proofs.holds.Goals as goal

pub returns-in-IntLe : goal.returns-in-IntLe
unfolding meaning builtin builtins
returns-in-IntLe c = rw c.in-IntLe.is c.int_le.ensures
