use Rattle.std.proofs.Common.{sym}
use Rattle.integers.specs.Bounds.{bounds_in}
use Rattle.models.specs.Model.{var, nums, past}
use Rattle.arguments.proofs.Size.{read}
use Rattle.laying.proofs.Written.{wrote-then, wrote-as}
use Rattle.choiceblocks.proofs.Blocks.{block_parts-set_in_reif}
use Rattle.choiceblocks.proofs.set_in_reif.Goals as goal

-- Bits, the rows of the choice, the row of the members.
pub returns : goal.returns
returns c =
    let i = c.index_of-index.ensures in
    let m = rw (read c.lower.type_inv c.lower.ensures.value, read c.upper.type_inv c.upper.ensures.value, i) at c.members_of-n.ensures in
    let a = rw (c.width_of-width.ensures, i) at c.bits.ensures in
    let b = rw (c.width_of-width.ensures, read c.lower-2.type_inv c.lower-2.ensures.value, i, c.var_at.ensures) at c.choice.ensures in
    let d = rw (m.many, read c.lower-3.type_inv c.lower-3.ensures.value, i, c.var_at-2.ensures, c.past_at.ensures.value) at c.member_row.ensures in
    wrote-as (sym (block_parts-set_in_reif c.args.first (bounds_in c.args.domains.now) (nums c.args.args.now 1) c.members_of-n.new.vs (var c.args.args.now 0) m.same (var c.args.args.now (past c.args.args.now 1)))) (wrote-then a (wrote-then b d))
