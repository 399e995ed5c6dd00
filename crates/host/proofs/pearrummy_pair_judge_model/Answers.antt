-- What a candidate gets by itself, by the answer that a host gets.
use Rattle.std.proofs.Common.{ap, ◌∙◌}
use Rattle.structs.specs.Structs.{judgement_of}
use Rattle.host.proofs.pearrummy_pair_judge_model.Goals as goal

pub returns-clause-alone : goal.returns-clause-alone
returns-clause-alone c us o = c.from.ensures ∙ ap judgement_of (c.pair_judge_model.ensures.alone us o)

pub returns-clause-faulty : goal.returns-clause-faulty
returns-clause-faulty c = rw c.pair_judge_model.ensures.answer at c.pair_judge_model.ensures.faulty
