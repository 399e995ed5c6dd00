-- Where the answer is that n solutions are listed, the output begins with n lists, one after another: exactly the lists that satisfy the model, each once, in
-- rising order of the first variable's value, then of the second's, and so on.
use Rattle.std.specs.Prelude.{◌≡◌, ◌⊎◌, ◌↔◌, ℕ, ◌*◌, ℤ, ◌<ℤ◌, length, take}
use mathlib.Core.List.{List, [], ◌∷◌, flatten}
use Rattle.words.specs.Answer.{Answer, written}
use Rattle.words.specs.Variables.{variables}
use Rattle.sharing.specs.SharedSolutions.{SatisfiesModel}

-- a list of values is one of these
abbrev pub OneOf : List ℤ → List (List ℤ) → Type 0
OneOf vs [] = ⊥
OneOf vs (us ∷ lists) = (vs ≡ us) ⊎ OneOf vs lists

-- at the first place where two lists differ, the value of the first is below that of the second
abbrev pub Before : List ℤ → List ℤ → Type 0
Before [] us = ⊥
Before (v ∷ vs) [] = ⊥
Before (v ∷ vs) (u ∷ us) = (v <ℤ u) ⊎ ((v ≡ u) × Before vs us)

-- each list comes before all later ones, so that none stands twice
abbrev pub InOrder : List (List ℤ) → Type 0
InOrder [] = Unit {0}
InOrder (vs ∷ lists) = ((us : List ℤ) → OneOf us lists → Before vs us) × InOrder lists

pub record Lists (model : List ℕ) (n : ℕ) (out : List ℤ) : Type 0 where
  pub lists : List (List ℤ)
  pub counted : n ≡ length lists
  pub written : take (n * length (variables model)) out ≡ flatten lists
  pub exactly : (vs : List ℤ) → OneOf vs lists ↔ SatisfiesModel model vs
  pub in_order : InOrder lists

abbrev pub AllSolutions : List ℕ → Answer → List ℤ → Type 0
AllSolutions model answer out = (n : ℕ) → answer ≡ written n → Lists model n out
