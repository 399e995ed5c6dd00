use Rattle.laying.proofs.Written.{wrote-nothing}
use Rattle.sharedblocks.proofs.left_out.left_term.Goals as goal

-- Nothing where the value is kept.
pub returns-else-not-kept : goal.returns-else-not-kept
returns-else-not-kept c = rw c.if-not-kept.false wrote-nothing
