-- The table of the arguments of each code.
use Rattle.std.specs.Prelude.{List, [], ◌∷◌, map, ℕ, zero, suc}
use Rattle.models.specs.Shape as Shape
use Rattle.models.specs.Shape.{shapes}

-- the arguments of each code, padded up with none to three
abbrev pub padded : ℕ → List ℕ → List ℕ
padded zero xs = []
padded (suc n) [] = Shape.none ∷ padded n []
padded (suc n) (x ∷ xs) = x ∷ padded n xs

unfoldable pub table : List (List ℕ)
table = map (padded 3) shapes
