-- The row of x − y + d ≤ 0 where the bit z is 1, with the gap P = hi x − lo y + d; where z is 0, if it is not `one`.
use Rattle.std.specs.Prelude.{Bool, List, [], ◌∷◌, ℕ, ℤ}
use Rattle.integers.specs.Choice.{◌if◌else◌}
use Rattle.integers.specs.Number.{◌⊖◌, neg, +1, -1}
use Rattle.words.specs.Kind as Kind
use Rattle.laying.specs.Part.{Part}
use Rattle.laying.specs.Lists.{term_of, row_parts_of}

abbrev pub where_row : Bool → ℕ → ℕ → ℕ → ℤ → ℤ → List Part
where_row one x y z P d = row_parts_of Kind.at_most (term_of +1 x ∷ term_of -1 y ∷ term_of (P if one else neg P) z ∷ []) (d ⊖ P if one else d)
