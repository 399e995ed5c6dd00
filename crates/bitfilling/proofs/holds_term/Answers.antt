-- A coefficient of 0, or the variable's bits.
use Rattle.std.proofs.Common.{inr}
use Rattle.bitfilling.proofs.holds_term.Goals as goal

pub returns : goal.returns
returns c e q v = inr (rw c.row_variable.ensures at (c.holds_variable.ensures e q v))
