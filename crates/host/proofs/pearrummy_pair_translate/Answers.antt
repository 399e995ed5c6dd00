-- What translate writes for a candidate shares the solutions, by the answer that a host gets; and what a candidate gets by itself.
use Rattle.std.proofs.Common.{ap, ◌∙◌}
use Rattle.structs.specs.Structs.{written_words_of}
use Rattle.host.proofs.Room.{words-room}
use Rattle.host.proofs.pearrummy_pair_translate.Goals as goal

pub returns-clause-shared : goal.returns-clause-shared
returns-clause-shared c = rw c.pair_translate.ensures.answer at c.pair_translate.ensures.shared

pub returns-clause-alone : goal.returns-clause-alone
returns-clause-alone c us o = let a = c.pair_translate.ensures.alone us o in (c.from.ensures ∙ ap written_words_of a.0, a.1)

pub returns-clause-faulty : goal.returns-clause-faulty
returns-clause-faulty c = rw c.pair_translate.ensures.answer at c.pair_translate.ensures.faulty

pub returns-clause-room : goal.returns-clause-room
returns-clause-room c = words-room c.pair_translate.result _ _ c.from.ensures c.pair_translate.ensures.room
