-- The invariant: no name has a number. The measure: the bytes left.
use Rattle.std.proofs.Common.{◌-◌, ◌≤◌, length}
use Rattle.symbols.specs.Symbol.{table_of, Cleared}
use Rattle.symbols.proofs.Symbols.take_names.Given as goal

abbrev pub invariant-loop-token : goal.invariant-loop-token
invariant-loop-token l = (l.at ≤ length l.text) × Cleared l.text (table_of l.self)

abbrev pub decreases-loop-token : goal.decreases-loop-token
decreases-loop-token l = length l.text - l.at
