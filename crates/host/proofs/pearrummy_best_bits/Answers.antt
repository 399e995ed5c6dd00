-- What the words say of the best solutions, by the answer that a host gets.
use Rattle.host.proofs.Room.{words-room}
use Rattle.host.proofs.pearrummy_best_bits.Goals as goal

pub returns-clause-shared : goal.returns-clause-shared
returns-clause-shared c = rw c.best_bits_by.ensures.answer at c.best_bits_by.ensures.shared

pub returns-clause-room : goal.returns-clause-room
returns-clause-room c = words-room c.best_bits_by.result _ _ c.from.ensures c.best_bits_by.ensures.room
