-- What fill hands over: where its answer is that it wrote n values, the first n of the output satisfy the row system that translate writes.
use Rattle.std.specs.Prelude.{◌≡◌, List, ℕ, ℤ, take}
use Rattle.words.specs.Answer.{Answer, written}
use Rattle.rules.specs.Translation.{system_words}
use Rattle.sharing.specs.SharedSolutions.{SatisfiesRows}

abbrev pub Satisfied : List ℕ → Answer → List ℤ → Type 0
Satisfied model answer out = (n : ℕ) → answer ≡ written n → SatisfiesRows (system_words model) (take n out)
