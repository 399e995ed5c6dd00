-- Demand 3 and 02, wish 10, of the words that translate wrote: where its answer is that it wrote n words, the first n of the output share the model's
-- solutions, each of these has exactly one list of auxiliary values, and so the row system has as many solutions as the model.
use Rattle.std.specs.Prelude.{◌≡◌, List, ℕ, take}
use Rattle.words.specs.Answer.{Answer, written}
use Rattle.sharing.specs.SharedSolutions.{SharedSolutions}
use Rattle.sharing.specs.ExactlyOne.{ExactlyOne, AsManySolutions}

abbrev pub Shares : List ℕ → Answer → List ℕ → Type 0
Shares model answer out =
    (n : ℕ) → answer ≡ written n → SharedSolutions model (take n out) × ExactlyOne model (take n out) × AsManySolutions model (take n out)
