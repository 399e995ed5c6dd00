use Rattle.std.proofs.Common.{sym, ◌∙◌}
use Rattle.integers.specs.Bounds.{bounds_in}
use Rattle.models.specs.Codes.{code_number}
use Rattle.encodings.specs.Uses.{shared_by}
use Rattle.blocks.specs.Coded.{constraint_of}
use Rattle.blocks.proofs.OneBlock.{wide_by}
use Rattle.checking.proofs.too_wide.Goals as goal

-- The width of the first argument's bounds, where each value has an auxiliary.
pub returns-then-has_all : goal.returns-then-has_all
returns-then-has_all c =
    let k = c.args.context.now in
    let x = c.args.constraint.now in
    rw (wide_by (bounds_in k.domains.now) (shared_by k.uses.now) (constraint_of (code_number x.code) x.args.now), sym c.has_all.ensures ∙ c.if-has_all.true, c.width_of.ensures, c.domain_of.ensures, c.var_at.ensures)

pub returns-else-has_all : goal.returns-else-has_all
returns-else-has_all c =
    let k = c.args.context.now in
    let x = c.args.constraint.now in
    rw (wide_by (bounds_in k.domains.now) (shared_by k.uses.now) (constraint_of (code_number x.code) x.args.now), sym c.has_all.ensures ∙ c.if-has_all.false) c.if-has_all.false
