-- The invariant: the name has come to this link. The measure: a link leads to a later name.
use Rattle.std.proofs.Common.{◌-◌, eqb}
use Rattle.integers.specs.Choice.{◌if◌else◌}
use Rattle.symbols.specs.Tree.{names_of}
use Rattle.symbols.proofs.Walk.{Walked}
use Rattle.symbols.proofs.tree.Tree.slot_of.Given as goal

abbrev pub invariant-loop-v : goal.invariant-loop-v
invariant-loop-v l = Walked l.text (names_of l.self) l.name l.depth l.link l.v

abbrev pub decreases-loop-v : goal.decreases-loop-v
decreases-loop-v l = 0 if eqb l.v 0 else 65536 - l.v
