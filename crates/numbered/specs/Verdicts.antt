-- The answer of a judge that refuses by the number of a fault.
use Rattle.std.specs.Prelude.{Result, Ok, Err}
use Rattle.words.specs.Answer.{Answer, refused}
use Rattle.words.specs.Faults.{said_of}
use Rattle.words.specs.declared.answer.Verdict.{Verdict}
use Rattle.numbered.specs.declared.refusals.Refusal.{Refusal}

abbrev pub numbered_verdict : Result Verdict Refusal → Answer
numbered_verdict (Ok v) = said_of v
numbered_verdict (Err r) = refused r.number r.place
