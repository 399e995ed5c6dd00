-- The answer of what fill answers; and a fact of how many values it wrote, where it wrote any.
use Rattle.std.specs.Prelude.{ℕ, Result, Ok, Err, ⊤}
use Rattle.words.specs.Answer.{Answer, written, out_of_bounds, is_false}
use Rattle.words.specs.Faults.{answer_of}
use Rattle.words.specs.declared.fault.Refusal.{Refusal}
use Rattle.filling.specs.declared.Filling.{Filling}
use Rattle.filling.specs.declared.Filling.TheVariants.{Values, OutOfBounds, False}

abbrev pub filling_of : Filling → Answer
filling_of (Values n) = written n
filling_of (OutOfBounds i) = out_of_bounds i
filling_of (False i) = is_false i

abbrev pub handed : Result Filling Refusal → Answer
handed = answer_of filling_of

abbrev pub IfFilled : Result Filling Refusal → (ℕ → Type 0) → Type 0
IfFilled (Ok (Values n)) P = P n
IfFilled (Ok (OutOfBounds i)) P = ⊤
IfFilled (Ok (False i)) P = ⊤
IfFilled (Err e) P = ⊤
