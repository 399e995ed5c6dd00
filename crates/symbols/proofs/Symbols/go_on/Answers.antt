-- The table has room as before; those of its names that are declared get their numbers again.
use Rattle.std.proofs.Common.{arith}
use Rattle.symbols.proofs.Entries.{same_index}
use Rattle.symbols.proofs.Symbols.go_on.Goals as goal

pub number_names-requires : goal.number_names-requires
number_names-requires c = record { inside = omega (arith, c.requires.latest.before, c.requires.inside); clear = c.take_names.ensures }

pub returns-clause-index : goal.returns-clause-index
returns-clause-index c = same_index c.requires.latest.same c.number_names.ensures
