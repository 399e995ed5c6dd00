-- What is written of int_div and int_mod are the parts of their blocks.
use Rattle.std.proofs.Common.{◌≡◌, refl, sym, ap, ◌∙◌, List, [], ◌∷◌, ◌++◌, ℕ, ◌+◌, add-zero, arith, ℤ}
use mathlib.Core.List.{flat_map, zip_with}
use Rattle.integers.specs.Number.{+0, +1, -1}
use Rattle.integers.specs.declared.Bounds.{Bounds}
use Rattle.integers.proofs.Lists.{flat_map_append}
use Rattle.words.specs.Kind as Kind
use Rattle.rules.specs.Block.{Ref, source, aux, numbered}
use Rattle.rules.specs.Parts.{end_products}
use Rattle.rules.specs.Division.{M, division_table, table_row, division_rows, quotient_bounds, remainder_row}
use Rattle.rules.specs.Rule.{division, left_over}
use Rattle.laying.specs.Part.{bound, bound_parts, term_parts, row_parts, block_parts}
use Rattle.laying.specs.Lists.{many, term_of, row_parts_of}
use Rattle.divisionblocks.specs.Rows.{auxiliary_parts, table_parts, division_parts}

module _ (first : ℕ) where
  -- the rows of 37 and 38, their auxiliaries numbered
  rows_are : (N D P : Bounds) (n d : ℕ) (q : Ref) (a b p g : ℕ) →
      table_parts (division_table N D (M N D P)) n d (numbered first q) (first + a) (first + b) (first + p) (first + g)
      ≡ flat_map (row_parts first) (division_rows N D P (source n) (source d) q (aux a) (aux b) (aux p) (aux g))
  unfolding table_parts many row_parts_of division_rows division_table table_row zip_with flat_map row_parts term_parts numbered
  rows_are N D P n d q a b p g = refl

  pub division-parts : (β : ℕ → Bounds) (n d q : ℕ) → division_parts (β n) (β d) (β q) n d q first ≡ block_parts first (division β n d q)
  unfolding division_parts auxiliary_parts many block_parts bound_parts division numbered
  division-parts β n d q =
      let P = end_products (β d) (β q) in
      ap (λ l. bound +0 +1 ∷ bound +0 +1 ∷ bound P.lower P.upper ∷ bound +0 +1 ∷ l)
      (ap (λ a. table_parts (division_table (β n) (β d) (M (β n) (β d) P)) n d q a (first + 1) (first + 2) (first + 3)) (sym (add-zero first))
      ∙ rows_are (β n) (β d) P n d (source q) 0 1 2 3)

  -- the auxiliaries of 38 after the first
  later : (table : List (List ℤ)) (n d : ℕ) →
      table_parts table n d first (first + 1) (first + 1 + 1) (first + 1 + 2) (first + 1 + 3)
      ≡ table_parts table n d (first + 0) (first + 1) (first + 2) (first + 3) (first + 4)
  later table n d = rw (add-zero first, sum 1, sum 2, sum 3)
    where
      sum : (k : ℕ) → first + 1 + k ≡ first + (1 + k)
      sum k = omega arith

  pub left_over-parts : (β : ℕ → Bounds) (n d r : ℕ) → let Q = quotient_bounds (β n) in
      bound Q.lower Q.upper ∷ (division_parts (β n) (β d) Q n d first (first + 1) ++ row_parts_of Kind.equal (term_of +1 (first + 3) ∷ term_of +1 r ∷ term_of -1 n ∷ []) +0)
      ≡ block_parts first (left_over β n d r)
  unfolding division_parts auxiliary_parts many row_parts_of block_parts bound_parts left_over remainder_row flat_map row_parts term_parts numbered
  left_over-parts β n d r =
      let Q = quotient_bounds (β n) in
      let P = end_products (β d) Q in
      let rows = division_rows (β n) (β d) P (source n) (source d) (aux 0) (aux 1) (aux 2) (aux 3) (aux 4) in
      let row = row_parts_of Kind.equal (term_of +1 (first + 3) ∷ term_of +1 r ∷ term_of -1 n ∷ []) +0 in
      ap (λ l. bound Q.lower Q.upper ∷ bound +0 +1 ∷ bound +0 +1 ∷ bound P.lower P.upper ∷ bound +0 +1 ∷ l)
      (ap (λ l. l ++ row) (later (division_table (β n) (β d) (M (β n) (β d) P)) n d ∙ rows_are (β n) (β d) P n d (aux 0) 1 2 3 4)
      ∙ sym (flat_map_append (row_parts first) rows (remainder_row (aux 3) (source r) (source n) ∷ [])))
