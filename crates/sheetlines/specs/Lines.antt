-- 02, wish 3: the lines of a row.
use Rattle.std.specs.Prelude.{List, [], ◌∷◌, ◌++◌, ℕ, zero, suc, ◌+◌, ◌*◌, ℤ}
use Prim.Native.Char.{code}
use Rattle.integers.specs.Number.{+0, +1}
use Rattle.integers.specs.Terms.{Term, ◌·◌}
use Rattle.words.specs.Bytes.{bytes}
use Rattle.rowsystems.specs.Row.{Row, sum≤0, sum=0, product}
use Rattle.decimals.specs.Decimal.{decimal, numeral}
use Rattle.decimals.specs.Column.{blanks, right, left}

-- "terms of 23 columns each: coefficient right in 10, a blank, "v", variable number left in 11"
unfoldable pub cell : Term ℕ → List ℕ
cell t = right 10 (numeral t.coefficient) ++ (code " " ∷ code "v" ∷ left 11 (decimal t.variable))

-- "each closed by a line feed": the blanks up to column 80 of a line with room for so many terms, and the line feed
unfoldable pub line_end : ℕ → List ℕ
line_end room = blanks (23 * room + 3) ++ (code "\n" ∷ [])

-- "Further terms go to further lines after 8 blanks": a term where the line has room for so many, and the room after it
unfoldable pub term_text : ℕ → Term ℕ → List ℕ
term_text zero t = line_end 0 ++ (blanks 8 ++ cell t)
term_text (suc room) t = cell t

unfoldable pub room_after : ℕ → ℕ
room_after zero = 2
room_after (suc room) = room

unfoldable pub term_lines : ℕ → List (Term ℕ) → List ℕ
term_lines room [] = line_end room
term_lines room (t ∷ ts) = term_text room t ++ term_lines (room_after room) ts

-- "the constant stands alone on the next line, right in 80"
unfoldable pub constant_line : ℤ → List ℕ
constant_line c = right 80 (numeral c) ++ (code "\n" ∷ [])

-- "the row's number from 0 (6 columns, right), its sign (2 ..), then up to three terms"
unfoldable pub sum_lines : ℕ → List ℕ → List (Term ℕ) → ℤ → List ℕ
sum_lines k sign ts c = right 6 (decimal k) ++ (sign ++ (term_lines 3 ts ++ constant_line c))

-- "<=", "= " or, for a product, ":="; "Products print three terms with coefficient 1 and the constant 0"
unfoldable pub row_lines : ℕ → Row ℕ → List ℕ
row_lines k (sum≤0 ts c) = sum_lines k (bytes "<=") ts c
row_lines k (sum=0 ts c) = sum_lines k (bytes "= ") ts c
row_lines k (product r f g) = sum_lines k (bytes ":=") (+1 · r ∷ +1 · f ∷ +1 · g ∷ []) +0

-- rows numbered from k on
unfoldable pub rows_lines : ℕ → List (Row ℕ) → List ℕ
rows_lines k [] = []
rows_lines k (r ∷ rs) = row_lines k r ++ rows_lines (k + 1) rs
