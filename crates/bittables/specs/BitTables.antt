-- The bits of the variables by three lists: bounds, the number of the first bit, how many bits. The last two stand in one list in the code.
use Rattle.std.specs.Prelude.{◌≡◌, List, map, ℕ, ◌≤◌, length, get_or}
use Rattle.integers.specs.Number.{◌⊖◌, count}
use Rattle.integers.specs.Bounds.{bounds_in}
use Rattle.integers.specs.declared.Bounds.{Bounds}
use Rattle.integers.specs.Terms.{Term}
use Rattle.rowsystems.specs.RowSystem.{rows}
use Rattle.rowsystems.specs.Row.{Row}
use Rattle.rowsystems.specs.OneWord.{row_of}
use Rattle.bitforms.specs.Weights.{weights}
use Rattle.bitforms.specs.OverBits.{OverBits, weighted_bits}
use Rattle.bitforms.specs.BitRow.{BitRow, bit_row, bit_rows}
use Rattle.bitlines.specs.Sizes as Size
use Rattle.bittables.specs.declared.table.BitVariable.{BitVariable}

-- the two lists of the list in the code: first bits, and how many bits
unfoldable pub firsts : List BitVariable → List ℕ
firsts bits = map (λ b. b.first) bits

unfoldable pub counts : List BitVariable → List ℕ
counts bits = map (λ b. b.count) bits

-- the width of variable v
unfoldable pub span_in : List Bounds → ℕ → ℕ
span_in domains v = count ((bounds_in domains v).upper ⊖ (bounds_in domains v).lower)

-- weights × bits of variable v, and lo + these
unfoldable pub bits_of : List Bounds → List ℕ → ℕ → List (Term ℕ)
bits_of domains firsts v = weighted_bits (get_or firsts v 0) (weights (span_in domains v))

abbrev pub encoding_by : List Bounds → List ℕ → ℕ → OverBits
encoding_by domains firsts v = record { constant = (bounds_in domains v).lower; terms = bits_of domains firsts v }

-- a row or product over bits by the lists, its own bits numbered from `first` on; the one with a head; all of them
abbrev pub row_over : List Bounds → List ℕ → ℕ → Row ℕ → BitRow
row_over domains firsts first q = bit_row (bounds_in domains) (encoding_by domains firsts) first q

abbrev pub row_by : List Bounds → List ℕ → ℕ → ℕ → List ℕ → BitRow
row_by domains firsts first head args = row_over domains firsts first (row_of head args)

abbrev pub rows_by : List Bounds → List ℕ → ℕ → List ℕ → List BitRow
rows_by domains firsts first ws = bit_rows (bounds_in domains) (encoding_by domains firsts) first (rows ws)

-- the size of first bits, and what a list of numbers of bits has in it
abbrev pub NearFirsts : List ℕ → Type 0
NearFirsts firsts = (v : ℕ) → get_or firsts v 0 ≤ Size.all_variable_bits

abbrev pub BitCounts : List Bounds → List ℕ → Type 0
BitCounts domains counts = (v : ℕ) → get_or counts v 0 ≡ length (weights (span_in domains v))
