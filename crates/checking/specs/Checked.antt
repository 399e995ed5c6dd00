-- The answer, in 01's words, of what check answers.
use Rattle.std.specs.Prelude.{Result}
use Rattle.words.specs.Answer.{Answer, counts}
use Rattle.words.specs.Faults.{answer_of}
use Rattle.words.specs.declared.fault.Refusal.{Refusal}
use Rattle.checking.specs.declared.Counts.{Counts}

abbrev pub counted : Counts → Answer
counted n = counts n.variables n.constraints n.auxiliaries n.rows n.words

abbrev pub checked : Result Counts Refusal → Answer
checked = answer_of counted
