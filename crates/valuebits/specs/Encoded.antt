-- The answer of each case of what the call says, and of what it hands over; and a fact of how many bits it wrote, where it wrote any.
use Rattle.std.specs.Prelude.{ℕ, Result, Ok, Err, ⊤}
use Rattle.words.specs.Answer.{Answer, written, out_of_bounds, is_false}
use Rattle.words.specs.Faults.{answer_of}
use Rattle.words.specs.declared.fault.Refusal as error
use Rattle.valuebits.specs.declared.Encoded.{Encoded}
use Rattle.valuebits.specs.declared.Encoded.TheVariants.{Bits, OutOfBounds, False}

abbrev pub encoding_of : Encoded → Answer
encoding_of (Bits n) = written n
encoding_of (OutOfBounds i) = out_of_bounds i
encoding_of (False i) = is_false i

abbrev pub encoded : Result Encoded error.Refusal → Answer
encoded = answer_of encoding_of

abbrev pub IfEncoded : Result Encoded error.Refusal → (ℕ → Type 0) → Type 0
IfEncoded (Ok (Bits n)) P = P n
IfEncoded (Ok (OutOfBounds i)) P = ⊤
IfEncoded (Ok (False i)) P = ⊤
IfEncoded (Err e) P = ⊤
