-- The name has a slot, with a number or without, or takes one.
use Rattle.std.proofs.Common.{refl, sym, ◌∙◌}
use Rattle.symbols.proofs.Entries.{absent, declared, numbered, taken_in}
use Rattle.symbols.proofs.Symbols.enter.Goals as goal

pub returns-then-self-i-ne0 : goal.returns-then-self-i-ne0
returns-then-self-i-ne0 c = declared c.requires.4 c.requires.5 c.in-Taken.i c.in-Taken.ensures.0 (sym c.bytes.ensures ∙ c.in-Taken.ensures.1) c.if-self-i-ne0.true

pub returns-else-self-i-ne0 : goal.returns-else-self-i-ne0
returns-else-self-i-ne0 c = rw c.requires.3 at (numbered c.requires.4 c.requires.5 c.in-Taken.i c.in-Taken.ensures.0 (sym c.bytes.ensures ∙ c.in-Taken.ensures.1) c.if-self-i-ne0.false)

pub returns-then-not-self : goal.returns-then-not-self
returns-then-not-self c = absent c.requires.4 c.requires.5 (rw c.bytes.ensures at c.in-Free.ensures) refl refl c.if-not-self.true

pub returns-then-not-has_room : goal.returns-then-not-has_room
returns-then-not-has_room c = absent c.requires.4 c.requires.5 (rw c.bytes.ensures at c.in-Free.ensures) refl refl refl

pub returns-else-not-has_room : goal.returns-else-not-has_room
returns-else-not-has_room c = rw c.requires.3 at (taken_in c.requires.4 c.requires.5 c.if-not-self.false (rw c.bytes.ensures at c.in-Free.ensures) (c.has_room.ensures c.if-not-has_room.false).0 c.put.ensures)
