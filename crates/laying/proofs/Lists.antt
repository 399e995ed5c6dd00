-- The lists of the definitions as the loops lay them.
use Rattle.std.proofs.Common.{◌≡◌, refl, ap, ap₂, ◌∙◌, Bool, List, [], ◌∷◌, ◌++◌, map, ℕ, zero, suc, ◌+◌, arith, ℤ, length}
use mathlib.Core.List.{map-append, flat_map}
use Rattle.integers.specs.Choice.{◌if◌else◌}
use Rattle.integers.specs.Number.{+0, +1}
use Rattle.integers.specs.Lists.{list_of}
use Rattle.integers.specs.Bounds.{width, values}
use Rattle.integers.specs.Terms.{Term}
use Rattle.integers.specs.declared.Bounds.{Bounds}
use Rattle.integers.proofs.Lists.{list_of-length}
use Rattle.models.specs.Model.{size, past, vars, nums, terms}
use Rattle.rowsystems.specs.Row.{Row, rename_terms}
use Rattle.rules.specs.Block.{Ref, source, numbered}
use Rattle.rules.specs.Parts.{◌─◌≤0, sources, each, bits, weighted, products}
use Rattle.laying.specs.Part.{bound, term, times, bound_parts, term_parts, row_parts}
use Rattle.laying.specs.Lists.{many, row_parts_of, sum_at, each_at, same_at, label_at, bit_at, order_at}
use Rattle.laying.proofs.Parts.{many-same}

-- ---- how long they are

module _ (args : List ℕ) (i : ℕ) where
  pub length-vars : length (vars args i) ≡ size args i
  unfolding vars
  length-vars = list_of-length _ (size args i)

  pub length-nums : length (nums args i) ≡ size args i
  unfolding nums
  length-nums = list_of-length _ (size args i)

  pub length-terms : length (terms args i) ≡ size args i
  unfolding terms
  length-terms = list_of-length _ (size args i)

-- ---- bounds

pub bounds-append : (As Bs : List Bounds) → bound_parts (As ++ Bs) ≡ bound_parts As ++ bound_parts Bs
unfolding bound_parts
bounds-append As Bs = map-append _ As Bs

pub bits-parts : {A : Type 0} (ls : List A) → bound_parts (bits ls) ≡ many bit_at (length ls)
unfolding bound_parts bits many
bits-parts [] = refl
bits-parts (l ∷ ls) = ap (λ ps. bound +0 +1 ∷ ps) (bits-parts ls)

-- one auxiliary further on
pub further : (first k j : ℕ) → first + suc k + j ≡ first + k + suc j
further first k j = omega arith

pub here : (first k : ℕ) → first + k ≡ first + k + 0
here first k = omega arith

module _ (first : ℕ) where
  -- ---- terms

  pub terms-append : (ts us : List (Term Ref)) → term_parts first (ts ++ us) ≡ term_parts first ts ++ term_parts first us
  unfolding term_parts
  terms-append ts us = map-append _ ts us

  pub sources-many : (f : ℕ → Term ℕ) (n : ℕ) → term_parts first (sources (list_of f n)) ≡ many (λ k. term (f k).coefficient (f k).variable ∷ []) n
  unfolding term_parts sources rename_terms numbered list_of many
  sources-many f zero = refl
  sources-many f (suc n) = ap (λ ps. term (f 0).coefficient (f 0).variable ∷ ps) (sources-many (λ k. f (suc k)) n)

  pub terms-parts : (args : List ℕ) (i : ℕ) → term_parts first (sources (terms args i)) ≡ many (sum_at args (i + 1) (past args i)) (size args i)
  unfolding terms
  terms-parts args i = sources-many _ (size args i)

  pub each-many : (c : ℤ) (f : ℕ → ℕ) (n : ℕ) → term_parts first (each c (list_of f n)) ≡ many (λ k. term c (f k) ∷ []) n
  unfolding term_parts each numbered list_of many
  each-many c f zero = refl
  each-many c f (suc n) = ap (λ ps. term c (f 0) ∷ ps) (each-many c (λ k. f (suc k)) n)

  pub each-parts : (c : ℤ) (args : List ℕ) (i : ℕ) → term_parts first (each c (vars args i)) ≡ many (each_at args c (i + 1)) (size args i)
  unfolding vars
  each-parts c args i = each-many c _ (size args i)

  pub weighted-many : {A : Type 0} (w : A → ℤ) (f : ℕ → A) (n k : ℕ) → term_parts first (weighted w (list_of f n) k) ≡ many (λ j. term (w (f j)) (first + k + j) ∷ []) n
  unfolding term_parts weighted numbered list_of many
  weighted-many w f zero k = refl
  weighted-many w f (suc n) k =
      ap₂ (λ (v : ℕ) ps. term (w (f 0)) v ∷ ps) (here first k)
      (weighted-many w (λ j. f (suc j)) n (suc k)
      ∙ many-same _ _ (λ j. ap (λ (v : ℕ). term (w (f (suc j))) v ∷ []) (further first k j)) n)

  pub labels-parts : (B : Bounds) (k : ℕ) → term_parts first (weighted (λ j. j) (values B) k) ≡ many (label_at B.lower (first + k)) (width B)
  unfolding values
  labels-parts B k = weighted-many (λ j. j) _ (width B) k

  pub same_parts : {A : Type 0} (c : ℤ) (ls : List A) (k : ℕ) → term_parts first (weighted (λ l. c) ls k) ≡ many (same_at c (first + k)) (length ls)
  unfolding term_parts weighted numbered many
  same_parts c [] k = refl
  same_parts c (l ∷ ls) k =
      ap₂ (λ (v : ℕ) ps. term c v ∷ ps) (here first k)
      (same_parts c ls (suc k) ∙ many-same _ _ (λ j. ap (λ (v : ℕ). term c v ∷ []) (further first k j)) (length ls))

  -- ---- products

  pub products-many : {A : Type 0} (x : A → ℕ) (f : ℕ → A) (n k m : ℕ) →
      flat_map (row_parts first) (products x (list_of f n) k m) ≡ many (λ j. times (first + m + j) (x (f j)) (first + k + j) ∷ []) n
  unfolding flat_map row_parts products numbered list_of many
  products-many x f zero k m = refl
  products-many x f (suc n) k m =
      ap₂ (λ (z b : ℕ). times z (x (f 0)) b ∷ flat_map (row_parts first) (products x (list_of (λ j. f (suc j)) n) (suc k) (suc m))) (here first m) (here first k)
      ∙ ap (λ ps. times (first + m + 0) (x (f 0)) (first + k + 0) ∷ ps)
      (products-many x (λ j. f (suc j)) n (suc k) (suc m)
      ∙ many-same _ _ (λ j. ap₂ (λ (z b : ℕ). times z (x (f (suc j))) b ∷ []) (further first m j) (further first k j)) n)

  -- ---- rows

  -- a row for each of a list by places
  pub rows-many : {A : Type 0} (q : A → Row Ref) (f : ℕ → A) (n : ℕ) → flat_map (row_parts first) (map q (list_of f n)) ≡ many (λ k. row_parts first (q (f k))) n
  unfolding flat_map list_of many
  rows-many q f zero = refl
  rows-many q f (suc n) = ap (λ ps. row_parts first (q (f 0)) ++ ps) (rows-many q (λ k. f (suc k)) n)

  pub order-parts : (args : List ℕ) (i m : ℕ) (up : Bool) →
      flat_map (row_parts first) (map (λ x. source (x if up else m) ─ source (m if up else x) ≤0) (vars args i)) ≡ many (order_at args (i + 1) m up) (size args i)
  unfolding vars ◌─◌≤0 row_parts row_parts_of term_parts numbered many
  order-parts args i m up = rows-many (λ x. source (x if up else m) ─ source (m if up else x) ≤0) _ (size args i)
