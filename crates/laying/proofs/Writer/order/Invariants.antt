-- The loop writes one list of parts in each turn.
use Rattle.laying.specs.Lists.{order_at}
use Rattle.laying.proofs.Written.{Writing}
use Rattle.laying.proofs.Writer.order.Given as goal

abbrev pub invariant-loop-k : goal.invariant-loop-k
invariant-loop-k l = Writing (order_at l.args l.base l.m l.up) l.initial.writer l.writer l.k
