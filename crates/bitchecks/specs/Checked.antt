-- What is found of rows over n bits.
use Rattle.std.specs.Prelude.{List, ℕ, ℤ, Option, None, Some}
use Rattle.integers.specs.Choice.{◌if◌else◌}
use Rattle.integers.specs.Lists.{all}
use Rattle.bitforms.specs.BitRow.{BitRow}
use Rattle.bitforms.specs.Energy.{square}
use Rattle.bitforms.specs.BitForm.{constant_of}
use Rattle.bitforms.specs.FormAnswer.{row_fits}

-- of one row: the square of its constant, if the row fits
unfoldable pub row_checked : ℕ → BitRow → Option ℤ
row_checked n r = Some (square r.whole.constant) if row_fits n r else None

-- of all rows: the sum of the squares, if they all fit
unfoldable pub rows_checked : ℕ → List BitRow → Option ℤ
rows_checked n rs = Some (constant_of rs) if all (row_fits n) rs else None
