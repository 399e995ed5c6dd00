-- All solutions, by the answer that a host gets.
use Rattle.host.proofs.Room.{lists-room}
use Rattle.host.proofs.pearrummy_solutions.Goals as goal

pub returns-clause-all : goal.returns-clause-all
returns-clause-all c = rw c.solutions.ensures.answer at c.solutions.ensures.all

pub returns-clause-room : goal.returns-clause-room
returns-clause-room c = lists-room c.solutions.result _ _ _ c.from.ensures c.solutions.ensures.room
