use Rattle.std.proofs.Common.{sym}
use Rattle.integers.specs.Bounds.{bounds_in}
use Rattle.models.specs.Model.{var, nums}
use Rattle.arguments.proofs.Size.{read}
use Rattle.laying.proofs.Written.{wrote-then, wrote-as}
use Rattle.choiceblocks.proofs.Blocks.{block_parts-set_in}
use Rattle.choiceblocks.proofs.set_in.Goals as goal

-- Bits, their row, the row of the members.
pub returns : goal.returns
returns c =
    let m = rw (read c.lower.type_inv c.lower.ensures.value, read c.upper.type_inv c.upper.ensures.value, c.index_of-index.ensures) at c.members_of-n.ensures in
    let a = rw m.many at c.bits.ensures in
    let b = rw m.many at c.one_bit.ensures in
    let d = rw (m.many, c.var_at.ensures) at c.value_row.ensures in
    wrote-as (sym (block_parts-set_in c.args.first (bounds_in c.args.domains.now) (nums c.args.args.now 1) c.members_of-n.new.vs (var c.args.args.now 0) m.same)) (wrote-then a (wrote-then b d))
