-- Over the bits of the shared variable, or by the code's own picks.
use Rattle.std.proofs.Common.{sym, ◌∙◌}
use Rattle.rules.specs.Shared.{pick_after}
use Rattle.picking.proofs.pick_constraint.Goals as goal

pub pick_shared-requires : goal.pick_shared-requires
unfolding pick_after
pick_shared-requires c =
    rw (sym c.is_shared.ensures ∙ c.if-is_shared.true) at c.requires.picks

pub returns-then-is_shared : goal.returns-then-is_shared
unfolding pick_after
returns-then-is_shared c = rw (sym c.is_shared.ensures ∙ c.if-is_shared.true) c.pick_shared.ensures

pub pick_block-requires : goal.pick_block-requires
unfolding pick_after
pick_block-requires c =
    rw (sym c.is_shared.ensures ∙ c.if-is_shared.false) at c.requires.picks

pub returns-else-is_shared : goal.returns-else-is_shared
unfolding pick_after
returns-else-is_shared c = rw (sym c.is_shared.ensures ∙ c.if-is_shared.false) c.pick_block.ensures
