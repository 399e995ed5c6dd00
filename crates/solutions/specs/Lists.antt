-- 02, wish 11: the value lists of bounds, "the first variable changing slowest, values rising".
use mathlib.Core.List.{List, [], ◌∷◌, map, flat_map}
use Rattle.std.specs.Prelude.{ℕ, ◌*◌, ℤ}
use Rattle.integers.specs.Bounds.{width, values}
use Rattle.integers.specs.declared.Bounds.{Bounds}

-- each value list begun with v
unfoldable pub begun : List (List ℤ) → ℤ → List (List ℤ)
begun lists v = map (λ vs. v ∷ vs) lists

unfoldable pub value_lists : List Bounds → List (List ℤ)
value_lists [] = [] ∷ []
value_lists (B ∷ Bs) = flat_map (begun (value_lists Bs)) (values B)

-- how many there are
unfoldable pub list_count : List Bounds → ℕ
list_count [] = 1
list_count (B ∷ Bs) = width B * list_count Bs
