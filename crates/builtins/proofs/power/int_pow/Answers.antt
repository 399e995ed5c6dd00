-- A power that was cut is equal to a value where the power is.
use Rattle.std.proofs.Common.{◌∙◌}
use Rattle.models.specs.Meaning.{meaning}
use Rattle.arguments.proofs.Size.{read}
use Rattle.builtins.proofs.CutPower.{power-equal}
use Rattle.builtins.proofs.power.int_pow.Goals as goal

pub returns-in_default : goal.returns-in_default
unfolding meaning
returns-in_default c =
    c.equal-in_default.ensures
    ∙ rw (read c.power_of.type_inv c.power_of.ensures, read c.value-x.type_inv c.value-x.ensures.value, read c.value-z.type_inv c.value-z.ensures.value, c.exponent_at.ensures.value) (power-equal _ _ (rw c.value-z.ensures.value at c.value-z.ensures.near))
