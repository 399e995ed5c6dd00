-- The words of a text, by the answer that a host gets.
use Rattle.host.proofs.Room.{words-room}
use Rattle.host.proofs.pearrummy_text.Goals as goal

pub returns-clause-words : goal.returns-clause-words
returns-clause-words c = rw c.read_text.ensures.answer at c.read_text.ensures.words

pub returns-clause-right : goal.returns-clause-right
returns-clause-right c = rw c.read_text.ensures.answer at c.read_text.ensures.right

pub returns-clause-room : goal.returns-clause-room
returns-clause-room c = words-room c.read_text.result _ _ c.from.ensures c.read_text.ensures.room
