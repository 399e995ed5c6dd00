-- The number of words of a block, by its auxiliaries and rows.
use Rattle.std.proofs.Common.{◌≡◌, refl, ◌∙◌, List, [], ◌∷◌, ◌++◌, map, ℕ, suc, ◌+◌, ◌*◌, ◌≤◌, arith, ℤ, length, length-append}
use mathlib.Core.List.{flat_map}
use lib.ListN.{length-map}
use Rattle.integers.specs.Terms.{Term}
use Rattle.integers.specs.declared.Bounds.{Bounds}
use Rattle.words.specs.Kind as Kind
use Rattle.words.specs.Limit as Limit
use Rattle.rowsystems.specs.Row.{Row, sum≤0, sum=0, product, rename, rename_terms}
use Rattle.rowsystems.specs.RowWords.{bound_words, term_words, sum_words, row_words}
use Rattle.rules.specs.Block.{Block, block_words, numbered}
use Rattle.rules.specs.Parts.{products}
use Rattle.rules.specs.Rule.{first_only}
use Rattle.rules.proofs.Lengths.{weighted-length}

-- ---- the words of a block, by its auxiliaries and rows

-- the sum of the elements' sizes
abbrev pub total : {A : Type 0} → (A → ℕ) → List A → ℕ
total size [] = 0
total size (x ∷ xs) = size x + total size xs

flat_map_length : {A B : Type 0} (f : A → List B) (size : A → ℕ) → ((x : A) → length (f x) ≡ size x) → (xs : List A) →
    length (flat_map f xs) ≡ total size xs
unfolding flat_map
flat_map_length f size h [] = refl
flat_map_length f size h (x ∷ xs) = rw (length-append, h x, flat_map_length f size h xs)

pub total-append : {A : Type 0} (size : A → ℕ) (xs ys : List A) → total size (xs ++ ys) ≡ total size xs + total size ys
total-append size [] ys = omega arith
total-append size (x ∷ xs) ys = omega (arith, total-append size xs ys)

pub total-map : {A B : Type 0} (size : B → ℕ) (f : A → B) (xs : List A) → total size (map f xs) ≡ total (λ x. size (f x)) xs
total-map size f [] = refl
total-map size f (x ∷ xs) = omega (arith, total-map size f xs)

pub total-same : {A : Type 0} (size : A → ℕ) (k : ℕ) → ((x : A) → size x ≡ k) → (xs : List A) → total size xs ≡ k * length xs
total-same size k h [] = omega arith
total-same size k h (x ∷ xs) = omega (arith, h x, total-same size k h xs)

flat_map_same : {A B : Type 0} (f : A → List B) (k : ℕ) → ((x : A) → length (f x) ≡ k) → (xs : List A) → length (flat_map f xs) ≡ k * length xs
flat_map_same f k h xs = flat_map_length f (λ x. k) h xs ∙ total-same (λ x. k) k (λ x. refl) xs

-- a head word, two words for each term, the constant; a product's head word and its three variables
abbrev pub row_size : {X : Type 0} → Row X → ℕ
row_size (sum≤0 ts c) = 2 + 2 * length ts
row_size (sum=0 ts c) = 2 + 2 * length ts
row_size (product r f g) = 4

module _ {X : Type 0} (f : X → ℕ) where
  sum-length : (k : ℕ) (ts : List (Term X)) (c : ℤ) → length (sum_words k (rename_terms f ts) c) ≡ 2 + 2 * length ts
  unfolding sum_words rename_terms term_words
  sum-length k ts c = simp (length-append, flat_map_same term_words 2 (λ t. refl), length-map) (omega arith)

  row-length : (r : Row X) → length (row_words (rename f r)) ≡ row_size r
  unfolding row_words rename
  row-length (sum≤0 ts c) = sum-length Kind.at_most ts c
  row-length (sum=0 ts c) = sum-length Kind.equal ts c
  row-length (product r g h) = refl

pub block-length : (first : ℕ) (B : Block) → length (block_words first B) ≡ 2 * length B.auxiliaries + total row_size B.rows
unfolding block_words bound_words
block-length first B = rw (length-append, flat_map_same bound_words 2 (λ C. refl), flat_map_length _ row_size (row-length (numbered first)))

-- ---- the words of each rule

pub products-size : {A : Type 0} (x : A → ℕ) (ls : List A) (k z : ℕ) → total row_size (products x ls k z) ≡ 4 * length ls
unfolding products
products-size x [] k z = omega arith
products-size x (l ∷ ls) k z = omega (arith, products-size x ls (suc k) (suc z))

-- the last rows of 26 and 33, of a list of at most 32: at most 68 words a row
pub first_only-size : (β : ℕ → Bounds) (u v : ℕ → ℕ) (xs : List ℕ) (k : ℕ) → length xs ≤ Limit.list_length → total row_size (first_only β u v xs k) ≤ 68 * length xs
unfolding first_only
first_only-size β u v [] k l = omega arith
first_only-size β u v (x ∷ []) k l = omega arith
first_only-size β u v (x ∷ (y ∷ ys)) k l =
    rw weighted-length (omega (arith, first_only-size β u v (y ∷ ys) (suc k) (omega arith)))
