-- A line of bit i before and after what the products of bits of a row add.
use Rattle.std.specs.Prelude.{◌≡◌, List, ℕ, ◌+◌, ◌*◌, ◌<◌, ◌≤◌, ℤ, length, get_or}
use Rattle.integers.specs.Number.{◌⊕◌, +0}
use Rattle.bitforms.specs.SumOver.{sum_over}
use Rattle.bitforms.specs.BitRow.{BitRow}
use Rattle.bitforms.specs.Matrix.{pair_entry}
use Rattle.bitlines.specs.Sizes as Size
use Rattle.bitlines.specs.Dense.{peak}

pub record PairsAdded (r : BitRow) (i : ℕ) (line line' : List ℤ) : Type 0 where
  pub same : length line' ≡ length line
  pub entries : (j : ℕ) → i ≤ j → j < length line → get_or line' j +0 ≡ get_or line j +0 ⊕ sum_over (λ p. pair_entry p i j) r.pairs
  pub small : peak line' ≤ peak line + 8 * Size.own_bits
