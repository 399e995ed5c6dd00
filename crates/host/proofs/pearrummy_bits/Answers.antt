-- What bits writes shares the solutions, by the answer that a host gets.
use Rattle.host.proofs.Room.{words-room}
use Rattle.host.proofs.pearrummy_bits.Goals as goal

pub returns-clause-shared : goal.returns-clause-shared
returns-clause-shared c = rw c.bit_form.ensures.answer at c.bit_form.ensures.shared

pub returns-clause-room : goal.returns-clause-room
returns-clause-room c = words-room c.bit_form.result _ _ c.from.ensures c.bit_form.ensures.room
