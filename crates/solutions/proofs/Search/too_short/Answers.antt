-- Where all value lists fit, the solutions do; else these are counted.
use Rattle.std.proofs.Common.{arith}
use Rattle.solutions.proofs.All.{solutions-fit, all_fit}
use Rattle.solutions.proofs.Search.too_short.Goals as goal

pub returns-then-lists-n : goal.returns-then-lists-n
returns-then-lists-n c = all_fit c.args.self.now.ws.now c.requires.0 c.args.room (rw c.requires.1 at c.if-lists-n.true)

pub overflow_mul-needed : goal.overflow_mul-needed
overflow_mul-needed c = rw c.write_in.ensures.count (omega (arith, solutions-fit c.args.self.now.ws.now c.requires.0))
