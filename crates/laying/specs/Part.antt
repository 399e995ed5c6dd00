-- A block as it is written, part by part; its auxiliaries are numbered from `first` on.
use mathlib.Core.List.{List, [], ◌∷◌, ◌++◌, map, flat_map}
use Rattle.std.specs.Prelude.{ℕ, ◌+◌, ℤ, length}
use Rattle.integers.specs.Terms.{Term}
use Rattle.integers.specs.declared.Bounds.{Bounds}
use Rattle.words.specs.Word.{word, number_word}
use Rattle.words.specs.Kind as Kind
use Rattle.rowsystems.specs.Row.{Row, sum≤0, sum=0, product}
use Rattle.rules.specs.Block.{Ref, Block, numbered}

pub data Part : Type 0 where
  -- an auxiliary's bounds
  bound : (lower upper : ℤ) → Part
  -- a row's head, of a kind and a number of terms; a term; the constant
  head : (kind terms : ℕ) → Part
  term : (coefficient : ℤ) (variable : ℕ) → Part
  constant : ℤ → Part
  -- a product
  times : (result factor other : ℕ) → Part

-- the words of a part, its numbers, and how many auxiliaries and rows it adds
unfoldable pub part_words : Part → List ℕ
part_words (bound l u) = number_word Kind.auxiliary_lower l ∷ number_word Kind.auxiliary_upper u ∷ []
part_words (head k n) = word k n ∷ []
part_words (term c v) = word Kind.variable v ∷ number_word Kind.number c ∷ []
part_words (constant c) = number_word Kind.number c ∷ []
part_words (times r f g) = word Kind.product 0 ∷ word Kind.variable r ∷ word Kind.variable f ∷ word Kind.variable g ∷ []

unfoldable pub part_numbers : Part → List ℤ
part_numbers (bound l u) = l ∷ u ∷ []
part_numbers (head k n) = []
part_numbers (term c v) = c ∷ []
part_numbers (constant c) = c ∷ []
part_numbers (times r f g) = []

unfoldable pub part_auxiliaries : Part → ℕ
part_auxiliaries (bound l u) = 1
part_auxiliaries (head k n) = 0
part_auxiliaries (term c v) = 0
part_auxiliaries (constant c) = 0
part_auxiliaries (times r f g) = 0

unfoldable pub part_rows : Part → ℕ
part_rows (bound l u) = 0
part_rows (head k n) = 0
part_rows (term c v) = 0
part_rows (constant c) = 1
part_rows (times r f g) = 1

-- of many parts
unfoldable pub words_in : List Part → List ℕ
words_in ps = flat_map part_words ps

unfoldable pub numbers_in : List Part → List ℤ
numbers_in ps = flat_map part_numbers ps

unfoldable pub auxiliaries_in : List Part → ℕ
auxiliaries_in [] = 0
auxiliaries_in (p ∷ ps) = part_auxiliaries p + auxiliaries_in ps

unfoldable pub rows_in : List Part → ℕ
rows_in [] = 0
rows_in (p ∷ ps) = part_rows p + rows_in ps

-- how many words, auxiliaries and rows
unfoldable pub size_in : List Part → ℕ
size_in ps = length (words_in ps) + auxiliaries_in ps + rows_in ps

-- the parts of bounds, terms, rows, blocks
unfoldable pub bound_parts : List Bounds → List Part
bound_parts Bs = map (λ B. bound B.lower B.upper) Bs

unfoldable pub term_parts : ℕ → List (Term Ref) → List Part
term_parts first ts = map (λ t. term t.coefficient (numbered first t.variable)) ts

unfoldable pub row_parts : ℕ → Row Ref → List Part
row_parts first (sum≤0 ts c) = head Kind.at_most (length ts) ∷ (term_parts first ts ++ (constant c ∷ []))
row_parts first (sum=0 ts c) = head Kind.equal (length ts) ∷ (term_parts first ts ++ (constant c ∷ []))
row_parts first (product r f g) = times (numbered first r) (numbered first f) (numbered first g) ∷ []

unfoldable pub block_parts : ℕ → Block → List Part
block_parts first B = bound_parts B.auxiliaries ++ flat_map (row_parts first) B.rows
