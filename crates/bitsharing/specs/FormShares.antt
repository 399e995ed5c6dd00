-- 02, wish 14, of the words that the call wrote: where its answer is that it wrote n words, the form that the output begins with is a sum of squares
-- and of what products of bits add, never below 0, and 0 for some bits exactly where the values that they read as satisfy the row system; and,
-- where translate wrote the row system, the model.
use Rattle.std.specs.Prelude.{◌≡◌, List, ℕ}
use Rattle.words.specs.Answer.{Answer, written}
use Rattle.rules.specs.Translation.{system_words}
use Rattle.sharing.specs.SharedSolutions.{Passes}
use Rattle.bitforms.specs.ReadForm.{read_form}
use Rattle.bitforms.specs.SameSolutions.{SameSolutions}
use Rattle.bitsharing.specs.ModelSolutions.{ModelSolutions}

abbrev pub FormShares : List ℕ → Answer → List ℕ → Type 0
FormShares ws answer out =
    (n : ℕ) → answer ≡ written n →
    SameSolutions ws (read_form out) × ((model : List ℕ) → Passes model → ws ≡ system_words model → ModelSolutions model (read_form out))
