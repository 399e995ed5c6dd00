-- Check: faults 1 to 11 and 18, then 12 to 14 "constraint by constraint, at one constraint in this order, place its head word"; else the counts.
use Rattle.std.specs.Prelude.{Bool, ◌&&◌, ◌||◌, List, [], ◌∷◌, ℕ, ◌+◌, ltb, eqb, length}
use Rattle.integers.specs.Choice.{◌if◌else◌}
use Rattle.integers.specs.Lists.{any}
use Rattle.integers.specs.Bounds.{width}
use Rattle.integers.specs.declared.Bounds.{Bounds}
use Rattle.words.specs.Limit as Limit
use Rattle.words.specs.Fault as Fault
use Rattle.words.specs.Variables.{variables}
use Rattle.words.specs.Refusal.{fault_or, accepted, ◌else_refuse◌}
use Rattle.words.specs.Answer.{Answer, counts, ◌else_answer◌}
use Rattle.words.specs.Refusals.{Refusal}
use Rattle.models.specs.Reading.{read_model_in}
use Rattle.models.specs.Model.{Constraint, constraints}
use Rattle.rules.specs.Block.{outside_in}
use Rattle.rules.specs.Shared.{Encoded, none_yet, choice, encodes, encoded_after}
use Rattle.rules.specs.Translation.{bounds, shared, block_of, system_words, auxiliaries, block_rows}

-- 12: "A code 28 needs more than 64 auxiliaries"; 02, wish 7: "Fault 12 now also comes when a shared list needs more than 64 auxiliaries, at the
-- first of them". The list has an auxiliary for each value of the variable; of the constraints that share it the first is the leftmost, so that
-- it is the one that is refused.
unfoldable pub too_wide : (ℕ → Bounds) → (ℕ → Bool) → Constraint → Bool
too_wide β s c = any (λ x. (eqb c.code 28 || s x) && ltb Limit.set_bits (width (β x))) (encodes (choice c))

-- in a range of numbers
module _ (range : Bounds) where
  -- 12 to 14 of a constraint whose block's auxiliaries are numbered from `first` on, given which variables are shared and which are encoded
  unfoldable pub block_fault_in : (ℕ → Bounds) → (ℕ → Bool) → ℕ → Encoded → Constraint → ℕ
  block_fault_in β s first e c =
      Fault.set_too_wide if too_wide β s c
      else Fault.number_outside if outside_in range (block_of β s e c)
      else Fault.too_many_in_all if ltb Limit.in_all (first + length (block_of β s e c).auxiliaries)
      else Fault.none

  unfoldable pub blocks_fault_in : (ℕ → Bounds) → (ℕ → Bool) → ℕ → Encoded → List Constraint → Refusal
  blocks_fault_in β s first e [] = accepted
  blocks_fault_in β s first e (c ∷ cs) =
      let rest = blocks_fault_in β s (first + length (block_of β s e c).auxiliaries) (encoded_after s first e (encodes (choice c))) cs in
      fault_or (block_fault_in β s first e c) c.place rest

  unfoldable pub check_fault_in : List ℕ → Refusal
  check_fault_in ws = read_model_in range ws else_refuse blocks_fault_in (bounds ws) (shared ws) (length (variables ws)) none_yet (constraints ws)

  -- "Check answers variables, constraints, auxiliaries, rows and words needed"
  unfoldable pub check_in : List ℕ → Answer
  check_in ws =
      check_fault_in ws
      else_answer counts (length (variables ws)) (length (constraints ws)) (length (auxiliaries ws)) (length (block_rows ws)) (length (system_words ws))

-- ---- In the range of 02

abbrev pub check_fault : List ℕ → Refusal
check_fault = check_fault_in Limit.range

abbrev pub check : List ℕ → Answer
check = check_in Limit.range
