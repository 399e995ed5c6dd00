-- The invariant: what was counted, times what the bounds left will leave, is the whole number where it is capped.
use Rattle.std.proofs.Common.{length}
use Rattle.integers.specs.Bounds.{bounds_in}
use Rattle.solutions.proofs.Counts.{Capping}
use Rattle.solutions.proofs.list_count.Given as goal

abbrev pub invariant-loop-domain : goal.invariant-loop-domain
invariant-loop-domain l = Capping (bounds_in l.domains) (length l.domains) l.count l.domain-index
