-- Of what is read of bits: where the answer is that n values were written, the values keep every bound, and satisfy the row system, and their
-- source values the model behind it, where the form is 0 at the bits; where it is an energy, that is never below 0, and 0 only where the values that the
-- bits read as satisfy the row system and their source values the model behind it.
use Rattle.std.specs.Prelude.{◌≡◌, List, map, ℕ, ℤ, pos, length, take}
use Rattle.integers.specs.Number.{+0}
use Rattle.words.specs.Answer.{Answer, written}
use Rattle.words.specs.Variables.{variables}
use Rattle.rules.specs.Translation.{system_words}
use Rattle.sharing.specs.SharedSolutions.{Passes, SatisfiesModel}
use Rattle.bitanswers.specs.ReadValues.{read_values, ReadsAs}
use Rattle.bitanswers.specs.BitEnergy.{energy_at, EnergyAnswer, energy_is, EnergySays}

-- where translate wrote the row system for a model and the form is 0 at the bits, the values of the model's variables satisfy it
abbrev pub ReadsModel : List ℕ → List ℕ → List ℤ → Type 0
ReadsModel ws bs vs =
    (model : List ℕ) → Passes model → ws ≡ system_words model → energy_at ws bs ≡ +0 → SatisfiesModel model (take (length (variables model)) vs)

abbrev pub ValuesShare : List ℕ → List ℕ → Answer → List ℤ → Type 0
ValuesShare ws bs answer out = (n : ℕ) → answer ≡ written n → ReadsAs ws bs (take n out) × ReadsModel ws bs (take n out)

abbrev pub EnergyShares : List ℕ → List ℕ → EnergyAnswer → Type 0
EnergyShares ws bs answer =
    (e : ℤ) → answer ≡ energy_is e → EnergySays ws bs e × (energy_at ws bs ≡ e) × ReadsModel ws bs (read_values ws (map pos bs))
