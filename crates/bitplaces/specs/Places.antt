-- The places of the numbers of a row that are not 0, in rising order.
use Rattle.std.specs.Prelude.{◌≡◌, List, ℕ, ◌<◌, ◌≤◌, ℤ, length, get_or}
use Rattle.integers.specs.Number.{+0}

-- a place of the row that stands in a list at none of the places before k, from x on
abbrev pub NotAt : List ℕ → ℕ → ℕ → ℕ → Type 0
NotAt places x k j = (z : ℕ) → x ≤ z → z < k → get_or places z 0 ≡ j → ⊥

-- those from `from` on stand in a list before its place k, from x on
pub record PlacesFrom (row : List ℤ) (from : ℕ) (places : List ℕ) (x k : ℕ) : Type 0 where
  pub rising : (y z : ℕ) → x ≤ y → y < z → z < k → get_or places y 0 < get_or places z 0
  pub inside : (y : ℕ) → x ≤ y → y < k → (from ≤ get_or places y 0) × (get_or places y 0 < length row)
  pub zeros : (j : ℕ) → from ≤ j → j < length row → NotAt places x k j → get_or row j +0 ≡ +0
