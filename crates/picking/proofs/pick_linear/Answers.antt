-- The sum less the constant is signed.
use Rattle.std.proofs.Common.{rules}
use Rattle.models.specs.Model.{builtin, builtins}
use Rattle.arguments.proofs.Size.{read}
use Rattle.rules.specs.Pick.{pick}
use Rattle.picking.proofs.pick_linear.Goals as goal

pub signed-requires : goal.signed-requires
unfolding pick builtin builtins
signed-requires c = (search rules, rw (read c.sum_less.type_inv c.sum_less.ensures) c.requires.ranged)
