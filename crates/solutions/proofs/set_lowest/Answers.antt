use Rattle.std.proofs.Common.{arith}
use Rattle.solutions.proofs.Values.{set-done}
use Rattle.solutions.proofs.set_lowest.Goals as goal

pub returns : goal.returns
returns c = set-done c.loop-i.invariant (omega (arith, c.loop-i.invariant.same, c.loop-i-test.false))
