-- The code's block, at the table's entry for the code.
use Rattle.std.proofs.Common.{◌≡◌}
use Rattle.models.specs.Codes.{code_number}
use Rattle.models.specs.Model.{builtin, builtins}
use Rattle.models.proofs.AllCodes.{same-code}
use Rattle.laying.proofs.Written.{wrote-fitting}
use Rattle.blocks.proofs.OneBlock.{fourth}
use Rattle.blocks.proofs.choices.own_choice.Goals.{In_default}
use Rattle.blocks.proofs.choices.own_choice.Goals as goal

reified : (c : In_default) → code_number c.args.constraint.now.code ≡ 28
reified c = fourth _ c.requires.1 (λ e. c.in_default.not-ArrayIntElement (same-code e)) (λ e. c.in_default.not-ArrayVarIntElement (same-code e)) (λ e. c.in_default.not-SetIn (same-code e))

pub returns-in-ArrayIntElement : goal.returns-in-ArrayIntElement
unfolding builtin builtins
returns-in-ArrayIntElement c = rw c.in-ArrayIntElement.is (wrote-fitting c.array_int_element.ensures)

pub returns-in-ArrayVarIntElement : goal.returns-in-ArrayVarIntElement
unfolding builtin builtins
returns-in-ArrayVarIntElement c = rw c.in-ArrayVarIntElement.is (wrote-fitting c.array_var_int_element.ensures)

pub returns-in-SetIn : goal.returns-in-SetIn
unfolding builtin builtins
returns-in-SetIn c = rw c.in-SetIn.is (wrote-fitting c.set_in.ensures)

pub set_in_reif-requires : goal.set_in_reif-requires
set_in_reif-requires c = (c.args.context.now.small, c.requires.0 (reified (goal.at.set_in_reif-requires c).In_default))

pub returns-in_default : goal.returns-in_default
unfolding builtin builtins
returns-in_default c = rw (reified (goal.at.returns-in_default c).In_default) (wrote-fitting c.set_in_reif.ensures)
