-- What is written of int_div and int_mod, part by part.
use Rattle.std.specs.Prelude.{List, [], ◌∷◌, ◌++◌, map, ℕ, ◌+◌, ℤ, get_or}
use Rattle.integers.specs.Number.{+0, +1}
use Rattle.integers.specs.declared.Bounds.{Bounds}
use Rattle.words.specs.Kind as Kind
use Rattle.rules.specs.Parts.{end_products}
use Rattle.rules.specs.Division.{M, division_table}
use Rattle.laying.specs.Part.{Part, bound, times}
use Rattle.laying.specs.Lists.{many, term_of, row_parts_of, bit_at}

-- a row of six coefficients and a constant, over the variables
abbrev pub six_terms : List ℕ → List ℤ → List Part
six_terms xs row = row_parts_of Kind.at_most (map (λ j. term_of (get_or row j +0) (get_or xs j 0)) (0 ∷ 1 ∷ 2 ∷ 3 ∷ 4 ∷ 5 ∷ [])) (get_or row 6 +0)

-- the k-th row of a table
abbrev pub table_at : List ℕ → List (List ℤ) → ℕ → List Part
table_at xs table k = six_terms xs (get_or table k [])

-- α, β, p within P, γ
unfoldable pub auxiliary_parts : Bounds → List Part
auxiliary_parts P = many bit_at 2 ++ (bound P.lower P.upper ∷ bound +0 +1 ∷ [])

-- p := d×q, γ := α×β and the rows of a table
unfoldable pub table_parts : List (List ℤ) → (n d q α β p γ : ℕ) → List Part
table_parts table n d q α β p γ = times p d q ∷ times γ α β ∷ many (table_at (n ∷ d ∷ p ∷ α ∷ β ∷ γ ∷ []) table) 10

-- the auxiliaries, numbered from v on, products and rows of a division; the bounds of n, d, q
unfoldable pub division_parts : Bounds → Bounds → Bounds → (n d q v : ℕ) → List Part
division_parts N D Q n d q v =
    let P = end_products D Q in
    auxiliary_parts P ++ table_parts (division_table N D (M N D P)) n d q v (v + 1) (v + 2) (v + 3)
