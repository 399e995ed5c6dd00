-- Every block is well formed: its auxiliaries' bounds are ordered, its rows name only the model's variables and its own and have at most 66
-- terms, a product's result is above its factors. The builtins of a model whose sets are not too wide have the sizes that this needs.
use Rattle.std.proofs.Common.{◌≡◌, subst, sym, Bool, true, false, List, [], ◌∷◌, ◌++◌, map, ℕ, suc, ◌+◌, ◌≤◌, ◌<◌, arith, ℤ, length, length-append}
use mathlib.Core.List.{zip_with}
use lib.ListN.{length-map}
use Rattle.integers.specs.Number.{◌⊕◌, ◌⊖◌, ◌⊗◌, neg, min_z, max_z, abs_z, +0, -1}
use Rattle.integers.specs.Bounds.{◌to◌, bit}
use Rattle.integers.specs.Terms.{Term, ◌·◌}
use Rattle.integers.specs.declared.Bounds.{Bounds}
use Rattle.integers.proofs.Linear.{◌⊑◌, linear, arith_z}
use Rattle.integers.proofs.Lists.{all_append, all_implies, all-mapped, all_made}
use Rattle.integers.proofs.Tests.{All}
use Rattle.words.specs.Limit as Limit
use Rattle.models.proofs.Arguments.{variables_in}
use Rattle.rowsystems.specs.Row.{Row, sum≤0, sum=0, product, rename_terms}
use Rattle.rowsystems.proofs.Ordered.{Ordered}
use Rattle.rules.specs.Block.{Ref, source, aux, Block}
use Rattle.rules.specs.Parts.{Z, end_products, extreme, L, U, ◌─◌≤0, sources, each, bits, weighted, one, one_bit, chosen, products}
use Rattle.rules.specs.Division.{M, division_table, table_row, division_rows, quotient_bounds, remainder_row}
use Rattle.rules.specs.Rule.{linked, sign_split, only_negative, zero_rows, zero_reified, first_only, one_of, division, left_over}
use Rattle.rules.proofs.Lengths.{sources-length, weighted-length, bits-length}

-- ---- what well formed means, over n variables of the model and m auxiliaries of the block

-- the variable is declared
abbrev pub RefIn : ℕ → ℕ → Ref → Type 0
RefIn n m (source v) = v < n
RefIn n m (aux k) = k < m

abbrev pub TermIn : ℕ → ℕ → Term Ref → Type 0
TermIn n m t = RefIn n m t.variable

abbrev pub TermsIn : ℕ → ℕ → List (Term Ref) → Type 0
TermsIn n m ts = (length ts ≤ Limit.terms) × All (TermIn n m) ts

-- a product's result is above its factors
abbrev pub RowIn : ℕ → ℕ → Row Ref → Type 0
RowIn n m (sum≤0 ts c) = TermsIn n m ts
RowIn n m (sum=0 ts c) = TermsIn n m ts
RowIn n m (product (source v) f g) = ⊥
RowIn n m (product (aux k) f g) = (k < m) × RefIn n k f × RefIn n k g

abbrev pub Formed : ℕ → Block → Type 0
Formed n B = All Ordered B.auxiliaries × All (RowIn n (length B.auxiliaries)) B.rows

-- the lists of a builtin have at most 32 elements, and the x of 28 at most 64 values
abbrev pub Short : {A : Type 0} → List A → Type 0
Short xs = length xs ≤ Limit.list_length

-- ---- bounds

pub bit-ordered : Ordered bit
bit-ordered = omega arith_z

pub Z-ordered : (B : Bounds) → Ordered (Z B)
unfolding Z
Z-ordered B = core B.lower B.upper
  where
    core : (l u : ℤ) → min_z +0 l ⊑ max_z +0 u
    core = simp linear (omega arith)

pub end_products-ordered : (A B : Bounds) → Ordered (end_products A B)
unfolding end_products
end_products-ordered A B = core (A.lower ⊗ B.lower) (A.lower ⊗ B.upper) (A.upper ⊗ B.lower) (A.upper ⊗ B.upper)
  where
    core : (p q r s : ℤ) → min_z (min_z p q) (min_z r s) ⊑ max_z (max_z p q) (max_z r s)
    core = simp linear (omega arith)

-- 38
pub quotient_bounds-ordered : (N : Bounds) → Ordered (quotient_bounds N)
unfolding quotient_bounds
quotient_bounds-ordered N = core N.lower N.upper
  where
    core : (l u : ℤ) → let w = max_z (abs_z l) (abs_z u) in neg w ⊑ w
    core = simp linear (omega arith)

pub L_U_ordered : (β : ℕ → Bounds) (asbs : List (Term ℕ)) (c : ℤ) → Ordered (L β asbs c to U β asbs c)
unfolding L U extreme
L_U_ordered β asbs c = less _ _ c (extremes asbs)
  where
    less : (p q c : ℤ) → p ⊑ q → p ⊖ c ⊑ q ⊖ c
    less = simp linear (omega arith)

    core : (p q r s : ℤ) → r ⊑ s → min_z p q ⊕ r ⊑ max_z p q ⊕ s
    core = simp linear (omega arith)

    extremes : (asbs : List (Term ℕ)) → extreme min_z β asbs ⊑ extreme max_z β asbs
    extremes [] = omega arith_z
    extremes (t ∷ ts) = core _ _ _ _ (extremes ts)

-- 12 to 14, 31, 32
pub signed-ordered : (β : ℕ → Bounds) (asbs : List (Term ℕ)) (c : ℤ) → All Ordered (sign_split β asbs c)
unfolding sign_split
signed-ordered β asbs c = (L_U_ordered β asbs c, (bit-ordered, (Z-ordered _, tt)))

pub bits-ordered : {A : Type 0} (ls : List A) → All Ordered (bits ls)
unfolding bits
bits-ordered ls = all_made (λ l. bit) Ordered (λ l. bit-ordered) ls

-- 25, 26, 33: the bits, then a z for each label
pub gated-ordered : {A : Type 0} (β : ℕ → Bounds) (x : A → ℕ) (ls : List A) → All Ordered (bits ls ++ map (λ l. Z (β (x l))) ls)
gated-ordered β x ls =
    let zs = map (λ l. Z (β (x l))) ls in
    (all_append Ordered (bits ls) zs).1 (bits-ordered ls, all_made (λ l. Z (β (x l))) Ordered (λ l. Z-ordered (β (x l))) ls)

-- ---- terms and rows

module _ (n m : ℕ) where
  pub append_in : (ts us : List (Term Ref)) → length ts + length us ≤ Limit.terms → All (TermIn n m) ts → All (TermIn n m) us → TermsIn n m (ts ++ us)
  append_in ts us l h k = (rw length-append l, (all_append (TermIn n m) ts us).1 (h, k))

  pub sources_in : (ts : List (Term ℕ)) → All (λ v. v < n) (variables_in ts) → All (TermIn n m) (sources ts)
  unfolding sources rename_terms
  sources_in [] h = tt
  sources_in (t ∷ ts) h = (h.0, sources_in ts h.1)

  pub sources-terms : (ts : List (Term ℕ)) → Short ts → All (λ v. v < n) (variables_in ts) → TermsIn n m (sources ts)
  sources-terms ts s h = (simp sources-length (omega arith), sources_in ts h)

  pub each_in : (c : ℤ) (vs : List ℕ) → All (λ v. v < n) vs → All (TermIn n m) (each c vs)
  unfolding each
  each_in c vs h = all-mapped (λ v. c · source v) (λ v. v < n) (TermIn n m) (λ v l. l) vs h

  -- one more source variable
  pub less_in : (ts : List (Term Ref)) (x : ℕ) → length ts < Limit.terms → x < n → All (TermIn n m) ts → TermsIn n m (ts ++ (-1 · source x ∷ []))
  less_in ts x l h k = append_in ts (-1 · source x ∷ []) (omega arith) k (h, tt)

  pub weighted_in : {A : Type 0} (w : A → ℤ) (ls : List A) (k : ℕ) → k + length ls ≤ m → All (TermIn n m) (weighted w ls k)
  unfolding weighted
  weighted_in w [] k l = tt
  weighted_in w (x ∷ ls) k l = (omega arith, weighted_in w ls (suc k) (omega arith))

  pub one_bit_in : {A : Type 0} (ls : List A) → length ls ≤ m → length ls ≤ Limit.terms → RowIn n m (one_bit ls)
  unfolding one_bit
  one_bit_in ls l s = (rw weighted-length s, weighted_in one ls 0 (omega arith))

  pub chosen_in : {A : Type 0} (w : A → ℤ) (ls : List A) (k x : ℕ) → k + length ls ≤ m → length ls < Limit.terms → x < n → RowIn n m (chosen w ls k x)
  unfolding chosen
  chosen_in w ls k x l s h = less_in (weighted w ls k) x (rw weighted-length s) h (weighted_in w ls k l)

  -- the first two rows of 24, 25, 27 and 28, and others
  pub choice_in : {R : Type 0} (ls : List ℤ) (x : ℕ) → length ls ≤ m → length ls < Limit.terms → x < n → R →
      RowIn n m (one_bit ls) × (RowIn n m (chosen (λ l. l) ls 0 x) × R)
  choice_in ls x l s h r = (one_bit_in ls l (omega arith), (chosen_in (λ l. l) ls 0 x (omega arith) s h, r))

  pub products_in : {A : Type 0} (x : A → ℕ) (ls : List A) (k z : ℕ) → k + length ls ≤ z → z + length ls ≤ m → All (λ l. x l < n) ls →
      All (RowIn n m) (products x ls k z)
  unfolding products
  products_in x [] k z l s h = tt
  products_in x (y ∷ ls) k z l s h = ((omega arith, h.0, omega arith), products_in x ls (suc k) (suc z) (omega arith) (omega arith) h.1)

  -- the last rows of 26 and 33
  first_only_in : (β : ℕ → Bounds) (u v : ℕ → ℕ) (xs : List ℕ) (k : ℕ) → All (λ x. (u x < n) × (v x < n)) xs → k + length xs ≤ m → Short xs →
      All (RowIn n m) (first_only β u v xs k)
  unfolding first_only
  first_only_in β u v [] k h l s = tt
  first_only_in β u v (x ∷ []) k h l s = tt
  first_only_in β u v (x ∷ (y ∷ ys)) k h l s = (
    (rw weighted-length (omega arith), (h.0.0, (h.0.1, weighted_in _ (y ∷ ys) (suc k) (omega arith)))),
    first_only_in β u v (y ∷ ys) (suc k) h.1 (omega arith) (omega arith),
  )

  -- the rows of a table of numbers
  table_in : (xs : List Ref) (table : List (List ℤ)) → length xs ≤ Limit.terms → All (RefIn n m) xs → All (RowIn n m) (map (table_row xs) table)
  unfolding table_row zip_with
  table_in xs table l h = all_made (table_row xs) (RowIn n m) (λ cs. let r = zipped cs xs h in (omega (arith, r.0), r.1)) table
    where
      zipped : (cs : List ℤ) (xs : List Ref) → All (RefIn n m) xs →
          (length (zip_with (λ c x. c · x) cs xs) ≤ length xs) × All (TermIn n m) (zip_with (λ c x. c · x) cs xs)
      zipped [] xs h = (omega arith, tt)
      zipped (c ∷ cs) [] h = (omega arith, tt)
      zipped (c ∷ cs) (x ∷ xs) h = let r = zipped cs xs h.1 in (omega (arith, r.0), (h.0, r.1))

  -- 37, 38: the products and the ten rows
  division_in : (N D P : Bounds) (v d q α β p γ : Ref) → RowIn n m (product p d q) → RowIn n m (product γ α β) →
      All (RefIn n m) (v ∷ d ∷ p ∷ α ∷ β ∷ γ ∷ []) → All (RowIn n m) (division_rows N D P v d q α β p γ)
  unfolding division_rows
  division_in N D P v d q α β p γ h k r = (h, (k, table_in (v ∷ d ∷ p ∷ α ∷ β ∷ γ ∷ []) (division_table N D (M N D P)) (omega arith) r))

-- ---- blocks

module _ (n : ℕ) (β : ℕ → Bounds) where
  -- 12 to 15
  pub linked_in : (m : ℕ) (asbs : List (Term ℕ)) (c : ℤ) → 0 < m → Short asbs → All (λ v. v < n) (variables_in asbs) → RowIn n m (linked β asbs c)
  unfolding linked
  linked_in m asbs c l s h =
      append_in n m (sources asbs) (-1 · aux 0 ∷ []) (simp sources-length (omega arith)) (sources_in n m asbs h) (l, tt)

  -- 13, 14, 31, 32
  pub zero_reified-formed : (equal : Bool) (asbs : List (Term ℕ)) (c : ℤ) (r : ℕ) → Short asbs → All (λ v. v < n) (variables_in asbs) → r < n →
      Formed n (zero_reified β equal asbs c r)
  unfolding zero_reified zero_rows sign_split only_negative
  zero_reified-formed true asbs c r s h k = (signed-ordered β asbs c, (linked_in 3 asbs c (omega arith) s h, omega arith))
  zero_reified-formed false asbs c r s h k = (signed-ordered β asbs c, (linked_in 3 asbs c (omega arith) s h, omega arith))

  -- 26, 33
  pub one_of-formed : (u v : ℕ → ℕ) (m : ℕ) (xs : List ℕ) → Short xs → m < n → All (λ x. x < n) xs → ((x : ℕ) → x < n → (u x < n) × (v x < n)) →
      Formed n (one_of β u v m xs)
  unfolding one_of ◌─◌≤0
  one_of-formed u v m xs s g h f =
      let k = length xs + length xs in
      let both = all_implies (λ x. x < n) (λ x. (u x < n) × (v x < n)) f xs h in
      let each : ℕ → Row Ref = λ x. source (u x) ─ source (v x) ≤0 in
      let B : Block = one_of β u v m xs in
      let e : length B.auxiliaries ≡ k = simp (length-append, bits-length, length-map) in (
        gated-ordered β (λ x. x) xs,
        subst (λ (j : ℕ). All (RowIn n j) B.rows) (sym e) (
          one_bit_in n k xs (omega arith) (omega arith),
          (all_append (RowIn n k) (products (λ x. x) xs 0 (length xs)) (chosen one xs (length xs) m ∷ (map each xs ++ first_only β u v xs 0))).1 (
            products_in n k (λ x. x) xs 0 (length xs) (omega arith) (omega arith) h,
            (
              chosen_in n k one xs (length xs) m (omega arith) (omega arith) g,
              (all_append (RowIn n k) (map each xs) (first_only β u v xs 0)).1 (
                all-mapped each (λ x. (u x < n) × (v x < n)) (RowIn n k) (λ x b. omega arith) xs both,
                first_only_in n k β u v xs 0 both (omega arith) s,
              ),
            ),
          ),
        ),
      )

  -- 37
  pub division-formed : (v d q : ℕ) → v < n → d < n → q < n → Formed n (division β v d q)
  unfolding division
  division-formed v d q h k l =
      let P = end_products (β d) (β q) in (
        (bit-ordered, (bit-ordered, (end_products-ordered (β d) (β q), (bit-ordered, tt)))),
        division_in n 4 (β v) (β d) P (source v) (source d) (source q) (aux 0) (aux 1) (aux 2) (aux 3) (omega arith) (omega arith) (omega arith),
      )

  -- 38
  pub left_over-formed : (v d r : ℕ) → v < n → d < n → r < n → Formed n (left_over β v d r)
  unfolding left_over remainder_row
  left_over-formed v d r h k l =
      let Q = quotient_bounds (β v) in
      let P = end_products (β d) Q in
      let rows = division_rows (β v) (β d) P (source v) (source d) (aux 0) (aux 1) (aux 2) (aux 3) (aux 4) in (
        (quotient_bounds-ordered (β v), (bit-ordered, (bit-ordered, (end_products-ordered (β d) Q, (bit-ordered, tt))))),
        (all_append (RowIn n 5) rows (remainder_row (aux 3) (source r) (source v) ∷ [])).1 (
          division_in n 5 (β v) (β d) P (source v) (source d) (aux 0) (aux 1) (aux 2) (aux 3) (aux 4) (omega arith) (omega arith) (omega arith),
          omega arith,
        ),
      )
