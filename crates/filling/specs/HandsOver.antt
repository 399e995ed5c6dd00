-- Demand 3, its second half: fill hands over such auxiliary values. For every model that passes the check and every list that satisfies it, an
-- output that is long enough gets the list followed by auxiliary values that make both together satisfy the row system, and the answer is
-- how many values these are. 02, wish 10: they are the only such auxiliary values.
use Rattle.std.specs.Prelude.{◌≡◌, List, ◌++◌, ℕ, ◌+◌, ◌≤◌, ℤ, length}
use Rattle.words.specs.Answer.{Answer, written}
use Rattle.words.specs.Overlay.{overlay}
use Rattle.words.specs.Variables.{variables}
use Rattle.rules.specs.Translation.{auxiliaries, system_words}
use Rattle.sharing.specs.SharedSolutions.{Passes, SatisfiesModel, Completes}

abbrev pub HandsOver : List ℕ → List ℤ → Answer → List ℤ → List ℤ → Type 0
HandsOver model vs answer before after =
    Passes model →
    SatisfiesModel model vs →
    length (variables model) + length (auxiliaries model) ≤ length before →
    (xs : List ℤ)
    × Completes model (system_words model) vs xs
    × ((ys : List ℤ) → Completes model (system_words model) vs ys → ys ≡ xs)
    × (answer ≡ written (length (vs ++ xs)))
    × (after ≡ overlay before 0 (vs ++ xs))
