-- Values of variables, each given by its number: a function's predicates, before a call and of its result.
use Rattle.std.specs.Prelude.{◌≡◌, ℕ, ◌<◌, ◌≤◌, ℤ, nat_abs}
use Rattle.words.specs.Limit as Limit

-- 2^27 + 2^28: the farthest from 0 that a lower bound and a width add up to
abbrev pub largest_value : ℕ
largest_value = 402653184

-- it may be called at the number of every variable, a payload, and what it answers is no farther from 0 than that
abbrev pub GivesNear : (ℕ → Type 0) → (ℕ → ℤ → Type 0) → Type 0
GivesNear pre post = (v : ℕ) → v < Limit.payloads → pre v × ((r : ℤ) → post v r → nat_abs r ≤ largest_value)

-- it answers the number of each
abbrev pub Gives : (ℕ → ℤ → Type 0) → (ℕ → ℤ) → Type 0
Gives post σ = (v : ℕ) (r : ℤ) → v < Limit.payloads → post v r → r ≡ σ v
