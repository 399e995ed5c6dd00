-- The loop writes one term in each turn.
use Rattle.laying.specs.Lists.{term_at}
use Rattle.laying.proofs.Written.{Writing}
use Rattle.laying.proofs.Writer.row.Given as goal

abbrev pub invariant-loop-term : goal.invariant-loop-term
invariant-loop-term l = Writing (term_at l.terms) l.initial.writer l.writer l.term-index
