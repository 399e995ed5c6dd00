-- The lines of the page, by the answer that a host gets.
use Rattle.host.proofs.Room.{bytes-room}
use Rattle.host.proofs.pearrummy_sheet.Goals as goal

pub returns-clause-lines : goal.returns-clause-lines
returns-clause-lines c = rw c.sheet.ensures.answer at c.sheet.ensures.lines

pub returns-clause-room : goal.returns-clause-room
returns-clause-room c = bytes-room c.sheet.result _ _ c.from.ensures c.sheet.ensures.room
