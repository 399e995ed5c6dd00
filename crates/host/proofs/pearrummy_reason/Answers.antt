-- What a reason says is so, of the answer that a host gets.
use Rattle.host.proofs.pearrummy_reason.Goals as goal

pub returns-clause-behind : goal.returns-clause-behind
returns-clause-behind c = rw c.reason.ensures.answer at c.reason.ensures.behind
