-- The rows and products behind accepted words, in order.
use Rattle.std.specs.Prelude.{List, [], ◌∷◌, ℕ, ◌+◌, ◌*◌, leb, eqb, ℤ}
use Rattle.integers.specs.Choice.{◌if◌else◌}
use Rattle.integers.specs.Lists.{list_of}
use Rattle.integers.specs.Terms.{Term, ◌·◌}
use Rattle.words.specs.Word.{kind, payload, signed, word_at}
use Rattle.words.specs.Kind as Kind
use Rattle.words.specs.Limit as Limit
use Rattle.rowsystems.specs.Row.{Row, sum≤0, sum=0, product}

-- the number of terms that a row's head word says; in accepted words no row has more than 66
unfoldable pub term_count : ℕ → ℕ
term_count w = payload w if leb (payload w) Limit.terms else Limit.terms

-- the variable and the number at place i of the words after a head
unfoldable pub variable_at : List ℕ → ℕ → ℕ
variable_at ws i = payload (word_at ws i)

unfoldable pub number_at : List ℕ → ℕ → ℤ
number_at ws i = signed (word_at ws i)

-- 01, Words: "each term a 5 and a 6 (coefficient), then a 6 (constant)": n terms, and the constant after them
unfoldable pub terms_in : List ℕ → ℕ → List (Term ℕ)
terms_in ws n = list_of (λ k. number_at ws (2 * k + 1) · variable_at ws (2 * k)) n

unfoldable pub constant_in : List ℕ → ℕ → ℤ
constant_in ws n = number_at ws (2 * n)

-- a row for each word of kind A or B, a product for each word of kind C
unfoldable pub rows : List ℕ → List (Row ℕ)
rows [] = []
rows (w ∷ ws) =
    let rest = rows ws in
    let n = term_count w in
    sum≤0 (terms_in ws n) (constant_in ws n) ∷ rest if eqb (kind w) Kind.at_most
    else sum=0 (terms_in ws n) (constant_in ws n) ∷ rest if eqb (kind w) Kind.equal
    else product (variable_at ws 0) (variable_at ws 1) (variable_at ws 2) ∷ rest if eqb (kind w) Kind.product
    else rest
