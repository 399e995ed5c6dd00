-- What Shares is worth: it is false of wrong words in front of other words, for models of 1, 2 and 3 variables: of each part alone.
use Rattle.std.proofs.Common.{refl, List, [], ◌∷◌, ◌++◌, ℕ, length}
use Rattle.words.specs.Answer.{written}
use Rattle.sharing.proofs.WrongSystems.{three, free, at_most_0, of_0_and_1, no_row, wider, with_row, two_bits, loses, admits, admits-outside, two-lists, loses-shared, admits-shared, two-lists-one, two-lists-many}
use Rattle.translation.specs.Shares.{Shares}

-- the answer is that these words were written, and other words stand behind them
abbrev Written : List ℕ → List ℕ → Type 0
Written model system = Shares model (written (length system)) (system ++ (7 ∷ 8 ∷ []))

-- a solution is lost; a list that is none is admitted, inside and outside the bounds
pub solutions : three (λ n. (Written (free n) (with_row n) → ⊥) × (Written (at_most_0 n) (no_row n) → ⊥) × (Written (free n) (wider n) → ⊥))
solutions = (
  (λ h. loses-shared _ _ _ loses.0 (h _ refl).0, λ h. admits-shared _ _ _ admits.0 (h _ refl).0, λ h. admits-shared _ _ _ admits-outside.0 (h _ refl).0),
  (λ h. loses-shared _ _ _ loses.1 (h _ refl).0, λ h. admits-shared _ _ _ admits.1 (h _ refl).0, λ h. admits-shared _ _ _ admits-outside.1 (h _ refl).0),
  (λ h. loses-shared _ _ _ loses.2 (h _ refl).0, λ h. admits-shared _ _ _ admits.2 (h _ refl).0, λ h. admits-shared _ _ _ admits-outside.2 (h _ refl).0),
)

-- a solution has two lists of auxiliaries
pub one_list : three (λ n. Written (of_0_and_1 n) (two_bits n) → ⊥)
one_list =
    (λ h. two-lists-one _ _ _ _ _ _ two-lists.0 (h _ refl).1, λ h. two-lists-one _ _ _ _ _ _ two-lists.1 (h _ refl).1, λ h. two-lists-one _ _ _ _ _ _ two-lists.2 (h _ refl).1)

-- the row system has more solutions than the model
pub as_many : three (λ n. Written (of_0_and_1 n) (two_bits n) → ⊥)
as_many =
    (λ h. two-lists-many _ _ _ _ _ _ two-lists.0 (h _ refl).2, λ h. two-lists-many _ _ _ _ _ _ two-lists.1 (h _ refl).2, λ h. two-lists-many _ _ _ _ _ _ two-lists.2 (h _ refl).2)
