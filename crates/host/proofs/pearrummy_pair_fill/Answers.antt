-- What a candidate gets by itself, by the answer that a host gets.
use Rattle.std.proofs.Common.{ap, ◌∙◌}
use Rattle.structs.specs.Structs.{judgement_of}
use Rattle.host.proofs.Room.{filled-room}
use Rattle.host.proofs.pearrummy_pair_fill.Goals as goal

pub returns-clause-alone : goal.returns-clause-alone
returns-clause-alone c us o = let a = c.pair_fill.ensures.alone us o in (c.from.ensures ∙ ap judgement_of a.0, a.1)

pub returns-clause-faulty : goal.returns-clause-faulty
returns-clause-faulty c = rw c.pair_fill.ensures.answer at c.pair_fill.ensures.faulty

pub returns-clause-room : goal.returns-clause-room
returns-clause-room c = filled-room c.pair_fill.result _ _ c.from.ensures c.pair_fill.ensures.room
