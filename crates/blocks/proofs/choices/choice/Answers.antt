-- Over the bits of the shared variable, or by the code's own rule.
use Rattle.std.proofs.Common.{sym, ◌∙◌}
use Rattle.integers.specs.Bounds.{bounds_in}
use Rattle.encodings.specs.Uses.{shared_by}
use Rattle.models.specs.Codes.{code_number}
use Rattle.blocks.specs.Coded.{constraint_of}
use Rattle.laying.proofs.Written.{wrote-fitting}
use Rattle.blocks.proofs.OneBlock.{narrow, all-28, shared-narrow, over-shared, over-own}
use Rattle.blocks.proofs.choices.choice.Goals as goal

pub shared_block-requires : goal.shared_block-requires
shared_block-requires c =
    let t = sym c.first_shared.ensures ∙ c.if-first_shared.true in
    ((c.args.context.now.small, shared-narrow (bounds_in c.args.context.now.domains.now) (shared_by c.args.context.now.uses.now) (code_number c.args.constraint.now.code) c.args.constraint.now.args.now c.requires.0 c.requires.1 t, c.args.context.now.recorded), c.requires.1)

pub returns-then-first_shared : goal.returns-then-first_shared
returns-then-first_shared c =
    let t = sym c.first_shared.ensures ∙ c.if-first_shared.true in
    rw (over-shared _ _ _ _ _ c.requires.1 t) (wrote-fitting c.shared_block.ensures)

pub own_choice-requires : goal.own_choice-requires
own_choice-requires c =
    ((λ e. narrow (bounds_in c.args.context.now.domains.now) (shared_by c.args.context.now.uses.now) (constraint_of (code_number c.args.constraint.now.code) c.args.constraint.now.args.now) c.requires.0 (all-28 _ c.args.constraint.now.args.now e)), c.requires.1)

pub returns-else-first_shared : goal.returns-else-first_shared
returns-else-first_shared c =
    let t = sym c.first_shared.ensures ∙ c.if-first_shared.false in
    rw (over-own _ _ _ _ _ c.requires.1 t) c.own_choice.ensures
