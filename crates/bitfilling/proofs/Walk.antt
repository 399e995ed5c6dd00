-- The walk over the words of rows: the rows over bits that are left at a place.
use Rattle.integers.specs.declared.Bounds.{Bounds}
use Rattle.std.proofs.Common.{◌≡◌, ap, true, false, List, [], ◌∷◌, ℕ, ◌+◌, ◌<◌, ◌≤◌, length, get_or, drop}
use Rattle.rowsystems.specs.OneWord.{starts_row}
use Rattle.rowsystems.proofs.Walk.{starts_none, starts-one, none_left}
use Rattle.integers.specs.Bounds.{bounds_in}
use Rattle.bitforms.specs.BitRow.{BitRow, bit_rows}
use Rattle.bittables.specs.BitTables.{encoding_by, row_by, rows_by}

module _ (Ds : List Bounds) (firsts ws : List ℕ) (first at : ℕ) where
  abbrev pub rows_left : List BitRow
  rows_left = rows_by Ds firsts first (drop at ws)

  -- the one here, if a row starts here
  abbrev pub next_row : BitRow
  next_row = row_by Ds firsts first (get_or ws at 0) (drop (at + 1) ws)

  pub left-none : at < length ws → starts_row (get_or ws at 0) ≡ false → rows_left ≡ rows_by Ds firsts first (drop (at + 1) ws)
  left-none h z = ap (bit_rows (bounds_in Ds) (encoding_by Ds firsts) first) (starts_none ws at h z)

  pub left_one : at < length ws → starts_row (get_or ws at 0) ≡ true → rows_left ≡ next_row ∷ rows_by Ds firsts (first + next_row.own) (drop (at + 1) ws)
  unfolding bit_rows
  left_one h z = ap (bit_rows (bounds_in Ds) (encoding_by Ds firsts) first) (starts-one ws at h z)

  pub left_end : length ws ≤ at → rows_left ≡ []
  unfolding bit_rows
  left_end h = ap (bit_rows (bounds_in Ds) (encoding_by Ds firsts) first) (none_left ws at h)
