-- A line before and after the entries of bit i and the bits after it in the square of a row over bits are added.
use Rattle.std.specs.Prelude.{◌≡◌, List, ℕ, ◌+◌, ◌*◌, ◌<◌, ◌≤◌, ℤ, length, get_or}
use Rattle.integers.specs.Number.{◌⊕◌, +0}
use Rattle.bitlines.specs.Sizes as Size
use Rattle.bitlines.specs.Dense.{peak}
use Rattle.bitlines.specs.Line.{square_at}

pub record SquareAdded (row : List ℤ) (c : ℤ) (i : ℕ) (line line' : List ℤ) : Type 0 where
  pub same : length line' ≡ length line
  pub entries : (j : ℕ) → i ≤ j → j < length line → get_or line' j +0 ≡ get_or line j +0 ⊕ square_at row c i j
  pub small : peak line' ≤ peak line + 1025 * Size.largest_entry
