-- The parts of a block have the words, the auxiliaries, the rows and the numbers that its definition says.
use Rattle.std.proofs.Common.{◌≡◌, refl, sym, ap, ap₂, ◌∙◌, not, List, [], ◌∷◌, ◌++◌, map, ℕ, arith, ℤ, length}
use mathlib.Core.List.{flat_map}
use lib.ListN.{length-map}
use Rattle.integers.specs.Lists.{all}
use Rattle.integers.specs.Terms.{Term}
use Rattle.integers.specs.declared.Bounds.{Bounds}
use Rattle.words.specs.Word.{word, number_word, in_range}
use Rattle.words.specs.Kind as Kind
use Rattle.rowsystems.specs.Row.{Row, sum≤0, sum=0, product, rename, rename_terms}
use Rattle.rowsystems.specs.RowWords.{bound_words, term_words, sum_words, row_words, bound_numbers, row_numbers}
use Rattle.rules.specs.Block.{Ref, Block, numbered, block_words, block_numbers, outside_in}
use Rattle.rules.specs.InRange.{outside}
use Rattle.laying.specs.Part.{head, constant, part_words, part_numbers, part_auxiliaries, part_rows, words_in, numbers_in, auxiliaries_in, rows_in, bound_parts, term_parts, row_parts, block_parts}
use Rattle.laying.proofs.Parts.{words_append, numbers-append, auxiliaries-append, rows_append}

-- ---- of bounds and terms

bound-words : (Bs : List Bounds) → words_in (bound_parts Bs) ≡ flat_map bound_words Bs
unfolding words_in bound_parts flat_map part_words bound_words
bound-words [] = refl
bound-words (B ∷ Bs) = ap (λ l. bound_words B ++ l) (bound-words Bs)

bound-numbers : (Bs : List Bounds) → numbers_in (bound_parts Bs) ≡ flat_map bound_numbers Bs
unfolding numbers_in bound_parts flat_map part_numbers bound_numbers
bound-numbers [] = refl
bound-numbers (B ∷ Bs) = ap (λ l. bound_numbers B ++ l) (bound-numbers Bs)

bound-auxiliaries : (Bs : List Bounds) → auxiliaries_in (bound_parts Bs) ≡ length Bs
unfolding auxiliaries_in bound_parts part_auxiliaries
bound-auxiliaries [] = refl
bound-auxiliaries (B ∷ Bs) = omega (arith, bound-auxiliaries Bs)

bound-rows : (Bs : List Bounds) → rows_in (bound_parts Bs) ≡ 0
unfolding rows_in bound_parts part_rows
bound-rows [] = refl
bound-rows (B ∷ Bs) = omega (arith, bound-rows Bs)

module _ (first : ℕ) where
  words_in-term_parts : (ts : List (Term Ref)) → words_in (term_parts first ts) ≡ flat_map term_words (rename_terms (numbered first) ts)
  unfolding words_in term_parts flat_map part_words term_words rename_terms
  words_in-term_parts [] = refl
  words_in-term_parts (t ∷ ts) = ap (λ l. word Kind.variable (numbered first t.variable) ∷ number_word Kind.number t.coefficient ∷ l) (words_in-term_parts ts)

  term-numbers : (ts : List (Term Ref)) → numbers_in (term_parts first ts) ≡ map (λ t. t.coefficient) ts
  unfolding numbers_in term_parts flat_map part_numbers
  term-numbers [] = refl
  term-numbers (t ∷ ts) = ap (λ l. t.coefficient ∷ l) (term-numbers ts)

  term-auxiliaries : (ts : List (Term Ref)) → auxiliaries_in (term_parts first ts) ≡ 0
  unfolding auxiliaries_in term_parts part_auxiliaries
  term-auxiliaries [] = refl
  term-auxiliaries (t ∷ ts) = omega (arith, term-auxiliaries ts)

  term_rows : (ts : List (Term Ref)) → rows_in (term_parts first ts) ≡ 0
  unfolding rows_in term_parts part_rows
  term_rows [] = refl
  term_rows (t ∷ ts) = omega (arith, term_rows ts)

  -- ---- of a row: a head, terms, a constant

  sum-words : (k : ℕ) (ts : List (Term Ref)) (c : ℤ) → words_in (head k (length ts) ∷ (term_parts first ts ++ (constant c ∷ []))) ≡ sum_words k (rename_terms (numbered first) ts) c
  unfolding sum_words words_in flat_map part_words rename_terms
  sum-words k ts c =
      ap₂ (λ (n : ℕ) l. word k n ∷ l) (sym (length-map ts _))
      (words_append (term_parts first ts) (constant c ∷ []) ∙ ap (λ l. l ++ (number_word Kind.number c ∷ [])) (words_in-term_parts ts))

  sum-numbers : (k : ℕ) (ts : List (Term Ref)) (c : ℤ) → numbers_in (head k (length ts) ∷ (term_parts first ts ++ (constant c ∷ []))) ≡ map (λ t. t.coefficient) ts ++ (c ∷ [])
  unfolding numbers_in flat_map part_numbers
  sum-numbers k ts c = numbers-append (term_parts first ts) (constant c ∷ []) ∙ ap (λ l. l ++ (c ∷ [])) (term-numbers ts)

  sum-auxiliaries : (k : ℕ) (ts : List (Term Ref)) (c : ℤ) → auxiliaries_in (head k (length ts) ∷ (term_parts first ts ++ (constant c ∷ []))) ≡ 0
  unfolding auxiliaries_in part_auxiliaries
  sum-auxiliaries k ts c = omega (arith, auxiliaries-append (term_parts first ts) (constant c ∷ []), term-auxiliaries ts)

  sum_rows : (k : ℕ) (ts : List (Term Ref)) (c : ℤ) → rows_in (head k (length ts) ∷ (term_parts first ts ++ (constant c ∷ []))) ≡ 1
  unfolding rows_in part_rows
  sum_rows k ts c = omega (arith, rows_append (term_parts first ts) (constant c ∷ []), term_rows ts)

  words_in-row_parts : (q : Row Ref) → words_in (row_parts first q) ≡ row_words (rename (numbered first) q)
  unfolding row_parts row_words rename words_in flat_map part_words
  words_in-row_parts (sum≤0 ts c) = sum-words Kind.at_most ts c
  words_in-row_parts (sum=0 ts c) = sum-words Kind.equal ts c
  words_in-row_parts (product r f g) = refl

  row-numbers : (q : Row Ref) → numbers_in (row_parts first q) ≡ row_numbers q
  unfolding row_parts row_numbers numbers_in flat_map part_numbers
  row-numbers (sum≤0 ts c) = sum-numbers Kind.at_most ts c
  row-numbers (sum=0 ts c) = sum-numbers Kind.equal ts c
  row-numbers (product r f g) = refl

  row-auxiliaries : (q : Row Ref) → auxiliaries_in (row_parts first q) ≡ 0
  unfolding row_parts auxiliaries_in part_auxiliaries
  row-auxiliaries (sum≤0 ts c) = sum-auxiliaries Kind.at_most ts c
  row-auxiliaries (sum=0 ts c) = sum-auxiliaries Kind.equal ts c
  row-auxiliaries (product r f g) = refl

  row-rows : (q : Row Ref) → rows_in (row_parts first q) ≡ 1
  unfolding row_parts rows_in part_rows
  row-rows (sum≤0 ts c) = sum_rows Kind.at_most ts c
  row-rows (sum=0 ts c) = sum_rows Kind.equal ts c
  row-rows (product r f g) = refl

  -- ---- of rows

  rows_words : (qs : List (Row Ref)) → words_in (flat_map (row_parts first) qs) ≡ flat_map (λ q. row_words (rename (numbered first) q)) qs
  unfolding flat_map words_in
  rows_words [] = refl
  rows_words (q ∷ qs) = words_append (row_parts first q) (flat_map (row_parts first) qs) ∙ ap₂ (λ a b. a ++ b) (words_in-row_parts q) (rows_words qs)

  rows-numbers : (qs : List (Row Ref)) → numbers_in (flat_map (row_parts first) qs) ≡ flat_map row_numbers qs
  unfolding flat_map numbers_in
  rows-numbers [] = refl
  rows-numbers (q ∷ qs) = numbers-append (row_parts first q) (flat_map (row_parts first) qs) ∙ ap₂ (λ a b. a ++ b) (row-numbers q) (rows-numbers qs)

  rows-auxiliaries : (qs : List (Row Ref)) → auxiliaries_in (flat_map (row_parts first) qs) ≡ 0
  unfolding flat_map auxiliaries_in
  rows-auxiliaries [] = refl
  rows-auxiliaries (q ∷ qs) = omega (arith, auxiliaries-append (row_parts first q) (flat_map (row_parts first) qs), row-auxiliaries q, rows-auxiliaries qs)

  rows-rows : (qs : List (Row Ref)) → rows_in (flat_map (row_parts first) qs) ≡ length qs
  unfolding flat_map rows_in
  rows-rows [] = refl
  rows-rows (q ∷ qs) = omega (arith, rows_append (row_parts first q) (flat_map (row_parts first) qs), row-rows q, rows-rows qs)

  -- ---- of a block

  pub words_in-block_parts : (B : Block) → words_in (block_parts first B) ≡ block_words first B
  unfolding block_parts block_words
  words_in-block_parts B =
      words_append (bound_parts B.auxiliaries) (flat_map (row_parts first) B.rows)
      ∙ ap₂ (λ a b. a ++ b) (bound-words B.auxiliaries) (rows_words B.rows)

  pub block-auxiliaries : (B : Block) → auxiliaries_in (block_parts first B) ≡ length B.auxiliaries
  unfolding block_parts
  block-auxiliaries B =
      omega (arith, auxiliaries-append (bound_parts B.auxiliaries) (flat_map (row_parts first) B.rows), bound-auxiliaries B.auxiliaries, rows-auxiliaries B.rows)

  pub block-rows : (B : Block) → rows_in (block_parts first B) ≡ length B.rows
  unfolding block_parts
  block-rows B =
      omega (arith, rows_append (bound_parts B.auxiliaries) (flat_map (row_parts first) B.rows), bound-rows B.auxiliaries, rows-rows B.rows)

  pub block-outside : (B : Block) → not (all in_range (numbers_in (block_parts first B))) ≡ outside B
  unfolding block_parts outside_in block_numbers
  block-outside B =
      ap (λ ns. not (all in_range ns))
      (numbers-append (bound_parts B.auxiliaries) (flat_map (row_parts first) B.rows)
      ∙ ap₂ (λ a b. a ++ b) (bound-numbers B.auxiliaries) (rows-numbers B.rows))
