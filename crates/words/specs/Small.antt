-- Numbers no farther from 0 than signed payloads are: one number, and all of a list.
use Rattle.std.specs.Prelude.{List, ℕ, ◌≤◌, ℤ, nat_abs, get_or}
use Rattle.integers.specs.Number.{+0}
use Rattle.words.specs.Limit as Limit

abbrev pub Near : ℤ → Type 0
Near z = nat_abs z ≤ Limit.half

abbrev pub Small : List ℤ → Type 0
Small vs = (x : ℕ) → Near (get_or vs x +0)
