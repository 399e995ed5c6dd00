-- What the walk through the value lists wants of the bounds of the first variables, and what it finds.
use Rattle.std.specs.Prelude.{List, ℕ, ◌+◌, ◌≤◌, ℤ, length}
use Rattle.integers.specs.Lists.{list_of}
use Rattle.integers.specs.Bounds.{bounds_in}
use Rattle.integers.specs.declared.Bounds.{Bounds}
use Rattle.words.specs.Limit as Limit
use Rattle.words.specs.Small.{Near}
use Rattle.rules.specs.Shared.{keep}
use Rattle.solutions.specs.Lists.{value_lists, list_count}
use Rattle.solutions.specs.AllWithin.{AllWithin, lowest_list}
use Rattle.solutions.specs.Odometer.{lists_from}
use Rattle.solutions.specs.Solutions.{every_true}

-- counting the lists stops at one more than are listed
abbrev pub count_cap : ℕ
count_cap = Limit.listed_lists + 1

-- the bounds of the first n variables
abbrev pub bounds_to : List Bounds → ℕ → List Bounds
bounds_to Ds n = list_of (bounds_in Ds) n

-- the bounds are near 0: what the type `Domain` says of each, of the list, as the definition's bounds have no such type
abbrev pub AllNear : List Bounds → Type 0
AllNear Ds = (x : ℕ) → Near (bounds_in Ds x).lower × Near (bounds_in Ds x).upper

-- the solutions from a list on
abbrev pub solutions_from : List ℕ → List Bounds → List ℤ → List (List ℤ)
solutions_from ws Ds vs = keep (every_true ws) (lists_from (bounds_to Ds (length vs)) vs)

-- what the walk from the list vs on wants
pub record Walkable (Ds : List Bounds) (vs : List ℤ) : Type 0 where
  pub near : AllNear Ds
  pub inside : AllWithin (bounds_to Ds (length vs)) vs
  pub few : length (lists_from (bounds_to Ds (length vs)) vs) ≤ Limit.listed_lists
  pub short : length vs ≤ Limit.listed_variables

-- what the walk through all lists wants
pub record ListsSized (Ds : List Bounds) (n : ℕ) : Type 0 where
  pub near : AllNear Ds
  pub inside : AllWithin (bounds_to Ds n) (lowest_list (bounds_to Ds n))
  pub few : list_count (bounds_to Ds n) ≤ Limit.listed_lists
  pub short : n ≤ Limit.listed_variables

-- the solutions within these bounds
abbrev pub solutions_in : List ℕ → List Bounds → ℕ → List (List ℤ)
solutions_in ws Ds n = keep (every_true ws) (value_lists (bounds_to Ds n))
