-- With a colon and without.
use Rattle.symbols.proofs.Entries.{none_new}
use Rattle.symbols.proofs.Symbols.note.Goals as goal

pub returns-then-not-colon-clause-index : goal.returns-then-not-colon-clause-index
returns-then-not-colon-clause-index c = none_new (rw c.if-not-colon.true at c.requires.4) c.requires.5

pub enter-requires : goal.enter-requires
enter-requires c = (c.requires.0, c.requires.1, c.requires.2, c.requires.3, rw c.if-not-colon.false at c.requires.4, c.requires.5)
