-- One number among zeros, and the first place of a list that passes a test.
use Rattle.std.specs.Prelude.{◌≡◌, Bool, true, false, List, [], ◌∷◌, ℕ, zero, suc, ◌<◌, ℤ}
use Rattle.integers.specs.Number.{+0}

-- n numbers: v at place h, 0 at all others
unfoldable pub only_at : ℕ → ℕ → ℤ → List ℤ
only_at zero h v = []
only_at (suc n) zero v = v ∷ only_at n n v
only_at (suc n) (suc h) v = +0 ∷ only_at n h v

-- of n places, h is the first that passes the test; where none passes, h is not below n
pub record FirstAt (t : ℕ → Bool) (n h : ℕ) : Type 0 where
  pub before : (k : ℕ) → k < n → k < h → t k ≡ false
  pub here : h < n → t h ≡ true
