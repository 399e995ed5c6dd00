use Rattle.std.proofs.Common.{sym}
use Rattle.arguments.proofs.Size.{read}
use Rattle.integers.specs.Bounds.{bounds_in}
use Rattle.laying.proofs.Written.{wrote-as}
use Rattle.sharedblocks.proofs.Blocks.{members-row}
use Rattle.sharedblocks.proofs.SharedBlock.write_members_row.Goals as goal

-- The row of the members.
pub returns : goal.returns
returns c =
    let i = c.index_of-index.ensures in
    let m = rw (read c.lower.type_inv c.lower.ensures.value, read c.upper.type_inv c.upper.ensures.value, i) at c.members_of-n.ensures in
    let a = rw (m.many, read c.lower-2.type_inv c.lower-2.ensures.value, i, c.first_bit.ensures.value, c.var_at-r.ensures, c.past_at.ensures.value) at c.member_row.ensures in
    wrote-as (sym (members-row (bounds_in c.args.self.now.domains.now) c.args.self.now.args.now c.args.self.now.encoded.now c.args.self.now.first c.members_of-n.new.vs m.same)) (a)
