-- The entries of a row over n bits, and of all rows, are no farther from 0 than a number.
use Rattle.std.specs.Prelude.{List, ℕ, ◌<◌, ◌≤◌, nat_abs}
use Rattle.bitforms.specs.BitRow.{BitRow}
use Rattle.bitforms.specs.Matrix.{row_entry, entry_of}

abbrev pub RowWithin : ℕ → BitRow → ℕ → Type 0
RowWithin n r b = (i j : ℕ) → i < n → j < n → nat_abs (row_entry r i j) ≤ b

abbrev pub EntriesWithin : ℕ → List BitRow → ℕ → Type 0
EntriesWithin n rs b = (i j : ℕ) → i < n → j < n → nat_abs (entry_of rs i j) ≤ b

-- of a row that fits: 3 × 16,384² + 8 × 3,844
abbrev pub largest_bound : ℕ
largest_bound = 805337120
