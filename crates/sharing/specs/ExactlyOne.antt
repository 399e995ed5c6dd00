-- 02, wish 10, "As many solutions as the model", of a model and the words of a row system.
use Rattle.std.specs.Prelude.{◌≡◌, ◌↔◌, List, ◌++◌, ℕ, ℤ}
use Rattle.rules.specs.Translation.{picks}
use Rattle.sharing.specs.SharedSolutions.{SatisfiesModel, SatisfiesRows, Completes}

-- "Every solution of a model must have exactly one list of auxiliary values."
abbrev pub ExactlyOne : List ℕ → List ℕ → Type 0
ExactlyOne model system =
    (vs : List ℤ) → SatisfiesModel model vs → (xs : List ℤ) × (Completes model system vs xs × ((ys : List ℤ) → Completes model system vs ys → ys ≡ xs))

-- the solutions of the row system are those of the model, each followed by what fill picks for it: counting the ones counts the others
abbrev pub AsManySolutions : List ℕ → List ℕ → Type 0
AsManySolutions model system =
    (zs : List ℤ) → SatisfiesRows system zs ↔ ((vs : List ℤ) × (SatisfiesModel model vs × (zs ≡ vs ++ picks model vs)))
