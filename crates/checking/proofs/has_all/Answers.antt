-- set_in_reif, or a code over a shared variable.
use Rattle.std.proofs.Common.{ap, sym, ◌∙◌}
use Rattle.models.specs.Codes.{code_number}
use Rattle.encodings.specs.Uses.{shared_by}
use Rattle.blocks.proofs.OneBlock.{all-28, has_by}
use Rattle.checking.proofs.has_all.Goals as goal

pub returns-in-SetInReif : goal.returns-in-SetInReif
returns-in-SetInReif c = sym (all-28 _ c.args.constraint.now.args.now (ap code_number c.in-SetInReif.is))

pub returns-in_default : goal.returns-in_default
returns-in_default c = c.is_shared.ensures ∙ sym (has_by (shared_by c.args.uses.now) c.args.constraint.now.code c.args.constraint.now.args.now c.in_default.not-SetInReif)
