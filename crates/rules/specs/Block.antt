-- A block: its auxiliaries, then its rows. It speaks of what stands before it, source variables and earlier blocks' auxiliaries, by their numbers,
-- and of its own auxiliaries from 0.
use Rattle.std.specs.Prelude.{Bool, not, ℕ, ◌+◌, ℤ}
use mathlib.Core.List.{List, ◌++◌, flat_map}
use Rattle.integers.specs.Lists.{all}
use Rattle.integers.specs.Bounds.{within}
use Rattle.integers.specs.declared.Bounds.{Bounds}
use Rattle.rowsystems.specs.Row.{Row, rename}
use Rattle.rowsystems.specs.RowWords.{bound_words, row_words, bound_numbers, row_numbers}

pub data Ref : Type 0 where
  source : ℕ → Ref
  aux : ℕ → Ref

-- 01, Rules: "Each constraint yields one block: its auxiliaries as listed, then its rows."
pub record Block : Type 0 where
  pub auxiliaries : List Bounds
  pub rows : List (Row Ref)

abbrev pub block : List Bounds → List (Row Ref) → Block
block auxiliaries rows = record { auxiliaries = auxiliaries; rows = rows }

-- "Auxiliaries are numbered on from the sources": the block's own from `first` on
unfoldable pub numbered : ℕ → Ref → ℕ
numbered first (source v) = v
numbered first (aux k) = first + k

unfoldable pub block_words : ℕ → Block → List ℕ
block_words first B = flat_map bound_words B.auxiliaries ++ flat_map (λ r. row_words (rename (numbered first) r)) B.rows

-- 13: "A coefficient, constant or auxiliary bound is outside the range."
unfoldable pub block_numbers : Block → List ℤ
block_numbers B = flat_map bound_numbers B.auxiliaries ++ flat_map row_numbers B.rows

unfoldable pub outside_in : Bounds → Block → Bool
outside_in range B = not (all (within range) (block_numbers B))
