-- What a row over bits adds to the line of bit i: its entries of bit i and the bits from i on.
use Rattle.std.specs.Prelude.{◌≡◌, List, ℕ, ◌+◌, ◌<◌, ◌≤◌, ℤ, length, get_or}
use Rattle.integers.specs.Number.{◌⊕◌, +0}
use Rattle.integers.specs.Terms.{Term}
use Rattle.words.specs.Limit as Limit
use Rattle.rowsystems.specs.RowSystem.{variable_at}
use Rattle.bitforms.specs.BitRow.{BitRow}
use Rattle.bitforms.specs.Matrix.{row_entry}
use Rattle.bitlines.specs.Sizes as Size
use Rattle.bitlines.specs.Dense.{peak}
use Rattle.bitlines.specs.Line.{square_terms}
use Rattle.bitrows.specs.Terms.{pairs_terms}
use Rattle.bitfilling.specs.Filled.{dense}

-- a line and a row over bits have a number for each of n bits
pub record LineAndRow (n : ℕ) (line row : List ℤ) : Type 0 where
  pub line_size : length line ≡ n
  pub row_size : length row ≡ n
  pub few : n ≤ Limit.bits

-- what the square of a row over n bits adds, of bit i and the m bits from i on
abbrev pub whole_terms : ℕ → BitRow → ℕ → ℕ → List (Term ℕ)
whole_terms n r i m = square_terms (dense n r.whole.terms) r.whole.constant i m

-- a list and a number are a row over bits and its constant
pub record FilledBy (r : BitRow) (row : List ℤ) (c : ℤ) : Type 0 where
  pub terms_are : row ≡ dense (length row) r.whole.terms
  pub constant_is : c ≡ r.whole.constant

-- what the products of bits of a product's two factors add
unfoldable pub product_pairs : List ℕ → List ℕ → List ℕ → ℕ → ℕ → List (Term ℕ)
product_pairs firsts counts args first i =
    let f = variable_at args 1 in
    let g = variable_at args 2 in
    pairs_terms (get_or firsts f 0) (get_or firsts g 0) first i (get_or counts f 0) (get_or counts g 0)

-- a line before and after a row is added
pub record Added (r : BitRow) (i : ℕ) (line line' : List ℤ) : Type 0 where
  pub same : length line' ≡ length line
  pub entries : (j : ℕ) → i ≤ j → j < length line → get_or line' j +0 ≡ get_or line j +0 ⊕ row_entry r i j
  pub small : peak line' ≤ peak line + Size.largest_row
