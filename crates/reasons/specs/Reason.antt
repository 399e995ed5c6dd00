-- 02, wish 9: "Given the model and a full value list inside all bounds, name the first failing row, the constraint whose block holds it, and the true
-- one of two reasons: that builtin is false of the source values, or true, and auxiliaries in the row are wrong."
use Rattle.std.specs.Prelude.{Bool, List, [], ◌∷◌, ◌++◌, map, ℕ, ◌+◌, eqb, ℤ, length, take}
use Rattle.integers.specs.Choice.{◌if◌else◌}
use Rattle.integers.specs.Terms.{Valuation, value}
use Rattle.words.specs.Fault as Fault
use Rattle.words.specs.Variables.{variables}
use Rattle.words.specs.Refusal.{◌at_place◌, accepted, ◌else_refuse◌}
use Rattle.words.specs.Answer.{Answer, refused, counts, written, holds, out_of_bounds, is_false, ◌else_answer◌}
use Rattle.words.specs.Judge.{first_false, first_out_of_bounds}
use Rattle.words.specs.Refusals.{Refusal}
use Rattle.models.specs.Model.{Constraint, builtin}
use Rattle.models.specs.Meaning.{meaning}
use Rattle.rowsystems.specs.Row.{Row, rename, satisfied}
use Rattle.rules.specs.Block.{numbered}
use Rattle.rules.specs.Translation.{bounds, shared, block_of, of_blocks, auxiliaries}
use Rattle.rules.specs.Check.{check_fault}
use Rattle.rules.specs.Fill.{filled_count}

pub data Reason : Type 0 where
  -- "check's faults and 15 come first"
  refuse : (number place : ℕ) → Reason
  -- "a value out of bounds judge-rows' answer"
  outside : (variable : ℕ) → Reason
  -- "No failing row gives "none""
  none : Reason
  -- the first failing row and the constraint whose block holds it, both counted from 0; and whether that builtin is true of the source values, so
  -- that auxiliaries in the row are wrong
  because : (row constraint : ℕ) → (true_of_sources : Bool) → Reason

-- a constraint and the rows of its block, numbered
pub record Explained : Type 0 where
  pub constraint : Constraint
  pub rows : List (Row ℕ)

-- of all blocks of a model
unfoldable pub explained : List ℕ → List Explained
explained ws =
    of_blocks ws (λ first e c. record { constraint = c; rows = map (rename (numbered first)) (block_of (bounds ws) (shared ws) e c).rows } ∷ [])

-- the row that an answer names, or where it names none what comes after
abbrev pub in_block : Answer → ℕ → Bool → Reason → Reason
in_block (refused n p) j t after = after
in_block (counts v c a r w) j t after = after
in_block (written n) j t after = after
in_block holds j t after = after
in_block (out_of_bounds i) j t after = after
in_block (is_false k) j t after = because k j t

-- the first failing row; σ has the source values, ρ all values; rows are counted from k, constraints from j
unfoldable pub first_failing : Valuation → Valuation → ℕ → ℕ → List Explained → Reason
first_failing σ ρ k j [] = none
first_failing σ ρ k j (x ∷ xs) =
    in_block (first_false (satisfied ρ) k x.rows) j (meaning σ (builtin x.constraint)) (first_failing σ ρ (k + length x.rows) (j + 1) xs)

-- a fault or a value out of bounds, else what comes after
abbrev pub answer_or : Answer → Reason → Reason
answer_or (refused n p) after = refuse n p
answer_or (counts v c a r w) after = after
answer_or (written n) after = after
answer_or holds after = after
answer_or (out_of_bounds i) after = outside i
answer_or (is_false k) after = after

-- check's faults, then 15: not one value for each variable and auxiliary
unfoldable pub reason_fault : List ℕ → List ℤ → Refusal
reason_fault ws vs = check_fault ws else_refuse (accepted if eqb (length vs) (filled_count ws) else Fault.wrong_value_count at_place 0)

unfoldable pub reason : List ℕ → List ℤ → Reason
reason ws vs =
    answer_or (reason_fault ws vs else_answer first_out_of_bounds (value vs) 0 (variables ws ++ auxiliaries ws) holds)
    (first_failing (value (take (length (variables ws)) vs)) (value vs) 0 0 (explained ws))
