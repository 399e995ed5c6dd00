-- One value list after another: whether a list is the last one, the list after it, and the lists from it on.
use Rattle.std.specs.Prelude.{Bool, true, not, ◌&&◌, ℤ}
use mathlib.Core.List.{List, [], ◌∷◌, ◌++◌, flat_map}
use Rattle.std.specs.Int.Signed.{lt_z}
use Rattle.integers.specs.Choice.{◌if◌else◌}
use Rattle.integers.specs.Number.{◌⊕◌, +1}
use Rattle.integers.specs.Bounds.{◌to◌, values}
use Rattle.integers.specs.declared.Bounds.{Bounds}
use Rattle.solutions.specs.Lists.{begun, value_lists}

-- every value is its upper bound
unfoldable pub is_last : List Bounds → List ℤ → Bool
is_last [] vs = true
is_last (B ∷ Bs) [] = true
is_last (B ∷ Bs) (v ∷ vs) = is_last Bs vs && not (lt_z v B.upper)

-- one more, where all values after it are the last ones; the lower bound after the upper one
unfoldable pub turned : Bounds → ℤ → ℤ
turned B v = v ⊕ +1 if lt_z v B.upper else B.lower

unfoldable pub next_list : List Bounds → List ℤ → List ℤ
next_list [] vs = []
next_list (B ∷ Bs) [] = []
next_list (B ∷ Bs) (v ∷ vs) = (turned B v if is_last Bs vs else v) ∷ next_list Bs vs

-- the lists from vs on
unfoldable pub lists_from : List Bounds → List ℤ → List (List ℤ)
lists_from [] vs = [] ∷ []
lists_from (B ∷ Bs) [] = []
lists_from (B ∷ Bs) (v ∷ vs) = begun (lists_from Bs vs) v ++ flat_map (begun (value_lists Bs)) (values (v ⊕ +1 to B.upper))
