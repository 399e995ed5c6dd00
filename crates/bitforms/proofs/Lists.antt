-- Lists by places, one element more at the end, and lists made of lists.
use Rattle.std.proofs.Common.{◌≡◌, refl, ap, ◌∙◌, List, [], ◌∷◌, ◌++◌, append-nil, ℕ, zero, suc, ◌+◌, add-one}
use mathlib.Core.List.{flat_map}
use Rattle.integers.specs.Lists.{list_of}
use Rattle.integers.proofs.Lists.{flat_map_append}

module _ {A : Type 0} where
  pub list-last : (f : ℕ → A) (k : ℕ) → list_of f (suc k) ≡ list_of f k ++ (f k ∷ [])
  unfolding list_of
  list-last f zero = refl
  list-last f (suc k) = ap (λ l. f 0 ∷ l) (list-last (λ i. f (suc i)) k)

  pub list-more : (f : ℕ → A) (k : ℕ) → list_of f (k + 1) ≡ list_of f k ++ (f k ∷ [])
  list-more f k = rw add-one (list-last f k)

module _ {A B : Type 0} (g : A → List B) where
  pub flat-more : (f : ℕ → A) (k : ℕ) → flat_map g (list_of f (k + 1)) ≡ flat_map g (list_of f k) ++ g (f k)
  unfolding flat_map
  flat-more f k = ap (flat_map g) (list-more f k) ∙ flat_map_append g (list_of f k) (f k ∷ []) ∙ ap (λ l. flat_map g (list_of f k) ++ l) (append-nil (g (f k)))
