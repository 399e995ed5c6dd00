-- What the words of a model promise of the FlatZinc that they come from.
use Rattle.std.specs.Prelude.{List, ℕ, ◌+◌, length}
use Rattle.rules.specs.Translation.{system_words, auxiliaries}
use Rattle.sharing.specs.SharedSolutions.{SatisfiesModel, SatisfiesRows, Passes}
use Rattle.flatzinc.specs.Items.{FlatZinc, SatisfiesFlat}
use Rattle.flatzinc.specs.System.{Carries}

-- a list of values satisfies the FlatZinc exactly when, with exactly one list of further values, it satisfies the words; and exactly when, with exactly one
-- list of further values and values of the auxiliaries, it satisfies the row system that translate writes of them
pub record Promise (F : FlatZinc) (ws : List ℕ) : Type 0 where
  pub further : ℕ
  pub model : Carries further (SatisfiesFlat F) (SatisfiesModel ws)
  pub rows : Passes ws → Carries (further + length (auxiliaries ws)) (SatisfiesFlat F) (SatisfiesRows (system_words ws))
