-- The faults of blocks, of translate and of fill in the range of 02: what internal contracts and proofs cite.
use Rattle.std.specs.Prelude.{Bool, List, ℕ, ℤ}
use Rattle.integers.specs.declared.Bounds.{Bounds}
use Rattle.words.specs.Limit as Limit
use Rattle.words.specs.Refusals.{Refusal}
use Rattle.models.specs.Model.{Constraint}
use Rattle.rules.specs.Block.{Block, outside_in}
use Rattle.rules.specs.Shared.{Encoded}
use Rattle.rules.specs.Check.{block_fault_in, blocks_fault_in}
use Rattle.rules.specs.Translate.{translate_fault_in}
use Rattle.rules.specs.Fill.{fill_fault_in}

abbrev pub outside : Block → Bool
outside = outside_in Limit.range

abbrev pub block_fault : (ℕ → Bounds) → (ℕ → Bool) → ℕ → Encoded → Constraint → ℕ
block_fault = block_fault_in Limit.range

abbrev pub blocks_fault : (ℕ → Bounds) → (ℕ → Bool) → ℕ → Encoded → List Constraint → Refusal
blocks_fault = blocks_fault_in Limit.range

abbrev pub translate_fault : List ℕ → ℕ → Refusal
translate_fault = translate_fault_in Limit.range

abbrev pub fill_fault : List ℕ → List ℤ → ℕ → Refusal
fill_fault = fill_fault_in Limit.range
