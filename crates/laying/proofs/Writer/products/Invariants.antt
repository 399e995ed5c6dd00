-- The loop writes one list of parts in each turn.
use Rattle.laying.specs.Lists.{product_at}
use Rattle.laying.proofs.Written.{Writing}
use Rattle.laying.proofs.Writer.products.Given as goal

abbrev pub invariant-loop-k : goal.invariant-loop-k
invariant-loop-k l = Writing (product_at l.args l.base l.z l.b) l.initial.writer l.writer l.k
