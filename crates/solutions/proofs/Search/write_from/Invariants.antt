-- The invariant: what was counted and what the lists left will give are what all lists give, and laying the latter from the place on gives what laying the solutions of all lists gives.
use Rattle.std.proofs.Common.{length}
use Rattle.solutions.specs.Solutions.{every_true}
use Rattle.solutions.specs.Walk.{bounds_to}
use Rattle.solutions.proofs.Odometer.{left}
use Rattle.solutions.proofs.Through.{Counting, Listing}
use Rattle.solutions.proofs.Search.write_from.Given as goal

abbrev pub invariant-loop-more : goal.invariant-loop-more
invariant-loop-more l =
    Counting (every_true l.self.ws.now) (bounds_to l.self.domains.now (length l.initial.values)) l.initial.values l.values l.count l.more
    × Listing (every_true l.self.ws.now) (bounds_to l.self.domains.now (length l.initial.values)) l.initial.values l.initial.out l.values l.out l.at l.more

abbrev pub decreases-loop-more : goal.decreases-loop-more
decreases-loop-more l = length (left l.more (bounds_to l.self.domains.now (length l.initial.values)) l.values)
