-- A token that follows no colon declares no name.
use Rattle.std.proofs.Common.{refl, false}
use Rattle.symbols.proofs.Entries.{none_new}
use Rattle.symbols.proofs.Reached.{latest-next}
use Rattle.symbols.proofs.Symbols.declare.Goals as goal

pub returns-clause-next : goal.returns-clause-next
returns-clause-next c = rw c.if-colon.false refl

pub returns-clause-index : goal.returns-clause-index
returns-clause-index c = none_new (rw c.if-colon.false at c.requires.0.4) c.requires.0.5

pub returns-clause-latest : goal.returns-clause-latest
returns-clause-latest c = latest-next false c.requires.0.0 (rw c.if-colon.false at c.requires.0.4) c.requires.1 refl
