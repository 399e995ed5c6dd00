-- The loop's invariant: the pairs passed are added.
use Rattle.std.proofs.Common.{◌*◌}
use Rattle.bitlines.specs.Dense.{Adds}
use Rattle.bitrows.specs.Terms.{pairs_with_terms}
use Rattle.bitrows.proofs.add_pairs_with.Given as goal

abbrev pub invariant-loop-b : goal.invariant-loop-b
invariant-loop-b l = Adds (pairs_with_terms l.u l.v l.t l.i l.b) (8 * l.b) l.initial.line l.line
