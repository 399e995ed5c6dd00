-- A faulty word in the variable table refuses both candidates.
use Rattle.std.specs.Prelude.{◌≡◌, List, ℕ, ltb, length}
use Rattle.integers.specs.Choice.{◌if◌else◌}
use Rattle.words.specs.Fault as Fault
use Rattle.words.specs.Limit as Limit
use Rattle.words.specs.Refusal.{◌at_place◌, accepted, ◌else_refuse◌, first_fault}
use Rattle.words.specs.Refusals.{Refusal}
use Rattle.words.specs.Answer.{Answer, refused}
use Rattle.models.specs.Reading.{State, fault_in, after, begin}
use Rattle.pairs.specs.Pair.{variable_table, model_of, pair_fault}

-- 1, before all else
unfoldable pub length_fault : List ℕ → Refusal
length_fault model = Fault.too_many_words at_place 0 if ltb Limit.model_words (length model) else accepted

-- the first faulty word of words after which more may follow
unfoldable pub words_fault : State → ℕ → List ℕ → Refusal
words_fault s p ws = first_fault (fault_in Limit.range) after (λ s. Fault.none) s p ws

abbrev pub table_fault : List ℕ → Refusal
table_fault ws = words_fault begin 0 (variable_table ws)

-- with its fault at its place, unless the candidate's model has too many words
abbrev pub RefusedByTable : ℕ → List ℕ → Answer → Type 0
RefusedByTable candidate ws answer =
    pair_fault ws ≡ accepted → ((table_fault ws).number ≡ Fault.none → ⊥) →
    let first = length_fault (model_of candidate ws) else_refuse table_fault ws in answer ≡ refused first.number first.place
