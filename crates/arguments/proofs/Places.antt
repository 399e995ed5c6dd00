-- What a loop over a list's places has passed grows by one place at the right; tests of a list by counting.
use Rattle.std.proofs.Common.{◌≡◌, Bool, ℕ, eqb}
use Rattle.integers.specs.Lists.{list_of, all, how_many}
use Rattle.integers.proofs.Lists.{list_of-length}
use Rattle.integers.proofs.Places.{all_more, any-more, how_many-more, sum_more, any-count, all-count}

pub ruleset passed = (all_more, any-more, how_many-more, sum_more)

pub all-listed : {A : Type 0} (t : A → Bool) (f : ℕ → A) (n : ℕ) → eqb (how_many t (list_of f n)) n ≡ all t (list_of f n)
all-listed t f n = rw (← all-count, list_of-length)

pub ruleset counted = (any-count, all-listed)
