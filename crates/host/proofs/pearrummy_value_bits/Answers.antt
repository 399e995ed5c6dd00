-- What the bits of values read as, by the answer that a host gets.
use Rattle.host.proofs.Room.{encoded-room}
use Rattle.host.proofs.pearrummy_value_bits.Goals as goal

pub returns-clause-read : goal.returns-clause-read
returns-clause-read c = rw c.value_bits.ensures.answer at c.value_bits.ensures.read

pub returns-clause-room : goal.returns-clause-room
returns-clause-room c = encoded-room c.value_bits.result _ _ c.from.ensures c.value_bits.ensures.room
