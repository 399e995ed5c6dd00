-- The numbers of a list at the front of another one, which has zeros after them: at most 32, and none far from 0.
use Rattle.std.specs.Prelude.{◌≡◌, List, ℕ, ◌<◌, ◌≤◌, ℤ, nat_abs, length, get_or}
use Rattle.integers.specs.Number.{+0}
use Rattle.words.specs.Limit as Limit

pub record FrontListed (vs : List ℤ) (n : ℕ) (out : List ℤ) : Type 0 where
  pub many : n ≡ length vs
  pub few : n ≤ Limit.list_length
  pub same : (k : ℕ) → get_or out k +0 ≡ get_or vs k +0
  pub near : (k : ℕ) → nat_abs (get_or out k +0) < 1000000000
