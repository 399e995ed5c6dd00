-- The value of each bit, the faults of bits when their number n is known, and the lists of the variables' bits of accepted words.
use Rattle.std.specs.Prelude.{◌≡◌, List, map, ℕ, ◌≤◌, ltb, pos, length}
use Rattle.integers.specs.Choice.{◌if◌else◌}
use Rattle.integers.specs.Bounds.{bounds_in}
use Rattle.integers.specs.declared.Bounds.{Bounds}
use Rattle.integers.specs.Terms.{Valuation, value}
use Rattle.words.specs.Fault as Fault
use Rattle.words.specs.Limit as Limit
use Rattle.words.specs.Refusal.{accepted, ◌at_place◌, ◌else_refuse◌}
use Rattle.words.specs.Refusals.{Refusal}
use Rattle.words.specs.Variables.{variables}
use Rattle.bitforms.specs.BitForm.{encoding, bit_rows_of, bit_count}
use Rattle.bitlines.specs.Sizes as Size
use Rattle.bittables.specs.BitTables.{firsts, counts, encoding_by, rows_by, NearFirsts, BitCounts}
use Rattle.bittables.specs.declared.table.BitVariable.{BitVariable}
use Rattle.bitanswers.specs.BitFaults.{bit_count_fault, bit_fault_from}

-- the value of each bit, 0 past the last one
abbrev pub bits_in : List ℕ → Valuation
bits_in bs = value (map pos bs)

-- 23, 15, 25, where there are to be n bits
unfoldable pub bits_fault_by : ℕ → List ℕ → Refusal
bits_fault_by n bs =
    (Fault.too_many_bits at_place 0 if ltb Limit.bits n else accepted) else_refuse (bit_count_fault n bs else_refuse bit_fault_from 0 bs)

-- n variables, whose bits are numbered to before `start`, and `all` bits
pub record BitsKept (ws : List ℕ) (domains : List Bounds) (bits : List BitVariable) (n start all : ℕ) : Type 0 where
  pub as_many : n ≡ length (variables ws)
  pub few : n ≤ Limit.in_all
  pub few_words : length ws ≤ Limit.row_words
  pub near : NearFirsts (firsts bits)
  pub counted : BitCounts domains (counts bits)
  pub near_start : start ≤ Size.all_variable_bits
  pub same_bounds : bounds_in domains ≡ bounds_in (variables ws)
  pub same_encodings : encoding_by domains (firsts bits) ≡ encoding ws
  pub same_rows : rows_by domains (firsts bits) start ws ≡ bit_rows_of ws
  pub same_count : all ≡ bit_count ws
