-- What values share with the row system, by the answer that a host gets.
use Rattle.host.proofs.Room.{values-room}
use Rattle.host.proofs.pearrummy_bit_values.Goals as goal

pub returns-clause-shared : goal.returns-clause-shared
returns-clause-shared c = rw c.bit_values.ensures.answer at c.bit_values.ensures.shared

pub returns-clause-room : goal.returns-clause-room
returns-clause-room c = values-room c.bit_values.result _ _ c.from.ensures c.bit_values.ensures.room
