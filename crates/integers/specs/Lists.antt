-- Lists: by a function of the place, tests over all elements.
use Rattle.std.specs.Prelude.{Bool, true, false, ◌&&◌, ◌||◌, List, [], ◌∷◌, ℕ, zero, suc, ◌+◌}
use Rattle.integers.specs.Choice.{◌if◌else◌}

module _ {A : Type 0} where
  -- f 0, f 1, .., f (n − 1)
  unfoldable pub list_of : (ℕ → A) → ℕ → List A
  list_of f zero = []
  list_of f (suc n) = f 0 ∷ list_of (λ i. f (suc i)) n

  -- every element passes the test; some element does; how many do
  unfoldable pub all : (A → Bool) → List A → Bool
  all t [] = true
  all t (x ∷ xs) = t x && all t xs

  unfoldable pub any : (A → Bool) → List A → Bool
  any t [] = false
  any t (x ∷ xs) = t x || any t xs

  unfoldable pub how_many : (A → Bool) → List A → ℕ
  how_many t [] = 0
  how_many t (x ∷ xs) = (1 if t x else 0) + how_many t xs
