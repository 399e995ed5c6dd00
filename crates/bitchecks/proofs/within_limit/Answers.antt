use Rattle.std.proofs.Common.{to_z-of_z}
use Rattle.bitchecks.proofs.Limits.{by_size}
use Rattle.bitchecks.proofs.within_limit.Goals as goal

pub returns : goal.returns
returns c = rw (c.unsigned_abs.ensures.value, to_z-of_z c.ranges.v) (by_size c.args.v)
