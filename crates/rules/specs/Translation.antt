-- The row system of a model's words: the sources' words, a block for each constraint, the end word; and what check counts in it.
use Rattle.std.specs.Prelude.{Bool, List, [], ◌∷◌, ◌++◌, ℕ, ◌+◌, ℤ, length}
use Rattle.integers.specs.Bounds.{bounds_in}
use Rattle.integers.specs.Terms.{value}
use Rattle.integers.specs.declared.Bounds.{Bounds}
use Rattle.words.specs.Word.{word}
use Rattle.words.specs.Kind as Kind
use Rattle.words.specs.Variables.{variables}
use Rattle.models.specs.Model.{Constraint, constraints, source_words, builtin}
use Rattle.rowsystems.specs.Row.{Row}
use Rattle.rules.specs.Block.{Ref, Block, block_words}
use Rattle.rules.specs.Shared.{Encoded, none_yet, choice, encodes, shared_in, encoded_after, rule_after, pick_after}

-- the bounds of the model's variables, and which of them are shared
unfoldable pub bounds : List ℕ → ℕ → Bounds
bounds ws = bounds_in (variables ws)

unfoldable pub shared : List ℕ → ℕ → Bool
shared ws = shared_in (constraints ws)

module _ (β : ℕ → Bounds) (s : ℕ → Bool) where
  -- the block of a constraint, given the record of encoded variables
  unfoldable pub block_of : Encoded → Constraint → Block
  block_of e c = rule_after β s e (choice c) (builtin c)

  -- what f makes of each block, its auxiliaries numbered from `first` on; 02, wish 7: "each block hands the record of encoded variables to the next"
  unfoldable pub each_block : {A : Type 0} → (ℕ → Encoded → Constraint → List A) → ℕ → Encoded → List Constraint → List A
  each_block f first e [] = []
  each_block f first e (c ∷ cs) =
      f first e c ++ each_block f (first + length (block_of e c).auxiliaries) (encoded_after s first e (encodes (choice c))) cs

  unfoldable pub blocks_words : ℕ → Encoded → List Constraint → List ℕ
  blocks_words = each_block (λ first e c. block_words first (block_of e c))

-- of all blocks of a model
abbrev pub of_blocks : {A : Type 0} → List ℕ → (ℕ → Encoded → Constraint → List A) → List A
of_blocks ws f = each_block (bounds ws) (shared ws) f (length (variables ws)) none_yet (constraints ws)

-- their words
abbrev pub all_blocks : List ℕ → List ℕ
all_blocks ws = blocks_words (bounds ws) (shared ws) (length (variables ws)) none_yet (constraints ws)

-- 01, Words: "1, 2, 3 as above, copied"
unfoldable pub system_words : List ℕ → List ℕ
system_words ws = source_words ws ++ (all_blocks ws ++ (word Kind.rows_end 0 ∷ []))

-- all auxiliaries and all rows, products among them; what fill picks for all auxiliaries
unfoldable pub auxiliaries : List ℕ → List Bounds
auxiliaries ws = of_blocks ws (λ first e c. (block_of (bounds ws) (shared ws) e c).auxiliaries)

unfoldable pub block_rows : List ℕ → List (Row Ref)
block_rows ws = of_blocks ws (λ first e c. (block_of (bounds ws) (shared ws) e c).rows)

unfoldable pub picks : List ℕ → List ℤ → List ℤ
picks ws vs = of_blocks ws (λ first e c. pick_after (bounds ws) (shared ws) e (value vs) (choice c) (builtin c))
