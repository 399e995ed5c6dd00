-- The invariant: the table has the numbers of the names declared so far. The measure: the bytes left.
use Rattle.std.proofs.Common.{◌-◌, ◌<◌, length}
use Rattle.symbols.specs.Symbol.{table_of}
use Rattle.symbols.specs.Symbol.{Tabled}
use Rattle.symbols.proofs.Symbols.number_names.Given as goal

abbrev pub invariant-loop-token : goal.invariant-loop-token
invariant-loop-token l = (l.at < l.place) × Tabled l.text l.at l.k l.after_colon (table_of l.self)

abbrev pub decreases-loop-token : goal.decreases-loop-token
decreases-loop-token l = length l.text - l.at
