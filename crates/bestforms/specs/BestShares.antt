-- The same of the model behind the row system, where the variable is one of the model's; and all of it of the words that the call wrote.
use Rattle.std.specs.Prelude.{◌≡◌, List, ℕ, ◌<◌, ℤ, pos, ◌≤ℤ◌, ◌<ℤ◌, length, take}
use Rattle.words.specs.Answer.{Answer, written}
use Rattle.words.specs.Variables.{variables}
use Rattle.rules.specs.Translation.{system_words}
use Rattle.sharing.specs.SharedSolutions.{Passes, SatisfiesModel}
use Rattle.bitforms.specs.ReadForm.{read_form}
use Rattle.bitanswers.specs.ReadValues.{read_values}
use Rattle.bestforms.specs.declared.Direction.{Direction}
use Rattle.bestforms.specs.BestForm.{factor}
use Rattle.bestforms.specs.BestSolutions.{distance_in, LeastBits, BestSolutions}

-- the values of the model's variables that bits of its row system read as
abbrev pub source_values : List ℕ → List ℤ → List ℤ
source_values model bs = take (length (variables model)) (read_values (system_words model) bs)

-- values that satisfy the model, and no others that do are nearer
abbrev pub BestOfModel : List ℕ → ℕ → Direction → List ℤ → Type 0
BestOfModel model v d vs = SatisfiesModel model vs × ((us : List ℤ) → SatisfiesModel model us → distance_in model v d vs ≤ℤ distance_in model v d us)

pub record BestModels (model : List ℕ) (v : ℕ) (d : Direction) (form : List ℤ → ℤ) : Type 0 where
  pub best : (vs bs : List ℤ) → SatisfiesModel model vs → LeastBits (system_words model) form bs → BestOfModel model v d (source_values model bs)
  pub none : (bs : List ℤ) → LeastBits (system_words model) form bs → pos (factor model v) ≤ℤ form bs → (vs : List ℤ) → ¬ SatisfiesModel model vs
  pub some : (bs : List ℤ) → LeastBits (system_words model) form bs → form bs <ℤ pos (factor model v) → BestOfModel model v d (source_values model bs)

abbrev pub BestShares : List ℕ → ℕ → Direction → Answer → List ℕ → Type 0
BestShares ws v d answer out =
    (n : ℕ) → answer ≡ written n →
    BestSolutions ws v d (read_form out)
    × ((model : List ℕ) → Passes model → ws ≡ system_words model → v < length (variables model) → BestModels model v d (read_form out))
