-- What was written fits, by the answer that a host gets.
use Rattle.host.proofs.Room.{filled-room}
use Rattle.host.proofs.pearrummy_fill.Goals as goal

pub returns-clause-room : goal.returns-clause-room
returns-clause-room c = filled-room c.fill.result _ _ c.from.ensures c.fill.ensures.room
