-- A row over bits as a list with a number for each of n bits, like bits added, from the words of a row.
use Rattle.std.specs.Prelude.{List, ℕ, ℤ, replicate}
use Rattle.integers.specs.Number.{+0}
use Rattle.integers.specs.Terms.{Term}
use Rattle.rowsystems.specs.Row.{Row, sum≤0, product}
use Rattle.rowsystems.specs.RowSystem.{terms_in, constant_in, variable_at}
use Rattle.bitlines.specs.Dense.{add_terms}

unfoldable pub dense : ℕ → List (Term ℕ) → List ℤ
dense n ts = add_terms (replicate n +0) ts

-- the row "sum ≤ 0" of n terms, and the product, of the words after a head
abbrev pub at_most_in : List ℕ → ℕ → Row ℕ
at_most_in args n = sum≤0 (terms_in args n) (constant_in args n)

abbrev pub product_in : List ℕ → Row ℕ
product_in args = product (variable_at args 0) (variable_at args 1) (variable_at args 2)
