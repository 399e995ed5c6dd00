-- The calls so far place what the constraints so far are rewritten as.
use Rattle.std.proofs.Common.{map, take}
use Rattle.flatzinc.specs.Seen.{item}
use Rattle.flattening.specs.Flattened.{constraint_items}
use Rattle.flattening.specs.Placed.{PlacesAll}
use Rattle.flattening.proofs.calls.constraint_calls.Given as goal

abbrev pub invariant-loop-constraint : goal.invariant-loop-constraint
invariant-loop-constraint l = PlacesAll l.calls.items (constraint_items (map item (take l.constraint-index l.constraints)))
