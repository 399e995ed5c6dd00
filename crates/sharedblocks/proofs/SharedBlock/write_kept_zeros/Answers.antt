use Rattle.std.proofs.Common.{rules, sym, ne_eqb}
use Rattle.arguments.proofs.Size.{read}
use Rattle.integers.specs.Bounds.{bounds_in}
use Rattle.laying.proofs.Written.{wrote-nothing, wrote-as}
use Rattle.sharedblocks.proofs.Blocks.{kept-zeros}
use Rattle.models.proofs.AllCodes.{same-code}
use Rattle.sharedblocks.proofs.SharedBlock.write_kept_zeros.Goals as goal

-- The bounds of the places that the index can have; nothing for another code.
pub returns-in-ArrayVarIntElement : goal.returns-in-ArrayVarIntElement
returns-in-ArrayVarIntElement c =
    let a = rw (c.labels.ensures.value, c.first_element.ensures.value, read c.lower.type_inv c.lower.ensures.value, c.element_places.ensures) at c.zeros.ensures (bounds_in c.args.self.now.domains.now) (λ x r p. search rules) (λ x r p. search rules) in
    rw c.in-ArrayVarIntElement.is (wrote-as (sym (kept-zeros (bounds_in c.args.self.now.domains.now) c.args.self.now.args.now)) (a))

pub returns-in_default : goal.returns-in_default
returns-in_default c = rw (ne_eqb _ _ (λ e. c.in_default.not-ArrayVarIntElement (same-code e))) wrote-nothing
