-- The statements so far lead to the state, and with whatever statements the rest is read as they are those of all bytes.
use Rattle.std.proofs.Common.{◌≡◌, List, ◌++◌, Some, length}
use Rattle.flatstatements.specs.Statement.{Statement}
use Rattle.flatnames.specs.Step.{start, steps}
use Rattle.flatnames.specs.Seen.{state_of}
use Rattle.flattening.specs.Reads.{Reads}
use Rattle.flattening.proofs.read.read.Given as goal

abbrev pub invariant-loop-state : goal.invariant-loop-state
invariant-loop-state l =
    (done : List Statement) × ((steps start done ≡ Some (state_of l.state)) × ((ss : List Statement) → Reads l.rest ss → Reads l.bytes (done ++ ss)))

abbrev pub decreases-loop-state : goal.decreases-loop-state
decreases-loop-state l = length l.rest
