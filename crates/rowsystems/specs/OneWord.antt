-- The row or product that starts at a word.
use Rattle.std.specs.Prelude.{Bool, ◌||◌, List, ℕ, eqb}
use Rattle.integers.specs.Choice.{◌if◌else◌}
use Rattle.words.specs.Kind as Kind
use Rattle.words.specs.Word.{kind}
use Rattle.rowsystems.specs.Row.{Row, sum≤0, sum=0, product}
use Rattle.rowsystems.specs.RowSystem.{term_count, variable_at, terms_in, constant_in}

-- whether a row starts at a word
unfoldable pub starts_sum : ℕ → Bool
starts_sum w = eqb (kind w) Kind.at_most || eqb (kind w) Kind.equal

-- whether a row or a product starts at a word, and which, before the words ws
unfoldable pub starts_row : ℕ → Bool
starts_row w = (eqb (kind w) Kind.at_most || eqb (kind w) Kind.equal) || eqb (kind w) Kind.product

unfoldable pub row_of : ℕ → List ℕ → Row ℕ
row_of w ws =
    sum≤0 (terms_in ws (term_count w)) (constant_in ws (term_count w)) if eqb (kind w) Kind.at_most
    else sum=0 (terms_in ws (term_count w)) (constant_in ws (term_count w)) if eqb (kind w) Kind.equal
    else product (variable_at ws 0) (variable_at ws 1) (variable_at ws 2)
