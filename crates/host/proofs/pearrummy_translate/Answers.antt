-- What translate writes shares the solutions, by the answer that a host gets.
use Rattle.host.proofs.Room.{words-room}
use Rattle.host.proofs.pearrummy_translate.Goals as goal

pub returns-clause-shared : goal.returns-clause-shared
returns-clause-shared c = rw c.translate.ensures.answer at c.translate.ensures.shared

pub returns-clause-room : goal.returns-clause-room
returns-clause-room c = words-room c.translate.result _ _ c.from.ensures c.translate.ensures.room
