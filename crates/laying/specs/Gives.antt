-- What a closure answers for the places below n: at each the element that a function has there.
use Rattle.std.specs.Prelude.{◌≡◌, ℕ, ◌<◌}

module _ {A : Type 0} where
  abbrev pub Gives : ℕ → (ℕ → A → Type 0) → (ℕ → A) → Type 0
  Gives n post f = (k : ℕ) (r : A) → k < n → post k r → r ≡ f k
