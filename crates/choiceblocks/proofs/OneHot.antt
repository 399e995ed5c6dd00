-- The rows and bounds of the definitions as the code lays them: over lists of labels by places.
use Rattle.std.proofs.Common.{◌≡◌, refl, sym, ap, ap₂, ◌∙◌, List, [], ◌∷◌, ◌++◌, append_assoc, map, ℕ, zero, suc, ◌+◌, ◌-◌, ◌<◌, add-zero, arith, ℤ, length, length-append}
use mathlib.Core.List.{flat_map}
use Rattle.integers.specs.Number.{◌⊕◌, ◌⊖◌, +0, +1, -1}
use Rattle.integers.specs.Lists.{list_of}
use Rattle.integers.specs.Bounds.{width, values}
use Rattle.integers.specs.Terms.{Term, ◌·◌}
use Rattle.integers.specs.declared.Bounds.{Bounds}
use Rattle.integers.proofs.Lists.{list_of-length, flat_map_append}
use Rattle.words.specs.Kind as Kind
use Rattle.models.specs.Model.{var}
use Rattle.rowsystems.specs.Row.{Row, sum≤0, sum=0}
use Rattle.rules.specs.Block.{Ref, source, numbered}
use Rattle.rules.specs.Parts.{Z, bits, weighted, one, one_bit, chosen, products}
use Rattle.rules.specs.Rule.{first_only}
use Rattle.laying.specs.Part.{Part, bound, head, term, constant, bound_parts, term_parts, row_parts}
use Rattle.laying.specs.Lists.{many, same_at, label_at, bit_at, product_at}
use Rattle.laying.proofs.Parts.{many-same}
use Rattle.rules.proofs.Lengths.{values_length, weighted-length}
use Rattle.laying.proofs.Lists.{bounds-append, bits-parts, terms-append, labels-parts, same_parts, products-many}
use Rattle.choiceblocks.specs.Rows.{zero_at, one_row, sum_row, choice_rows, gates, gated_rows, later_row}

-- the same at every place below n
pub many_below : (f g : ℕ → List Part) (n : ℕ) → ((k : ℕ) → k < n → f k ≡ g k) → many f n ≡ many g n
unfolding many
many_below f g zero h = refl
many_below f g (suc n) h = ap₂ (λ a b. a ++ b) (h 0 (omega arith)) (many_below (λ k. f (suc k)) (λ k. g (suc k)) n (λ k l. h (suc k) (omega arith)))

pub bounds-many : {A : Type 0} (q : A → Bounds) (f : ℕ → A) (n : ℕ) → bound_parts (map q (list_of f n)) ≡ many (λ k. bound (q (f k)).lower (q (f k)).upper ∷ []) n
unfolding bound_parts list_of many
bounds-many q f zero = refl
bounds-many q f (suc n) = ap (λ ps. bound (q (f 0)).lower (q (f 0)).upper ∷ ps) (bounds-many q (λ k. f (suc k)) n)

module _ (first : ℕ) where
  pub terms-many : {A : Type 0} (t : A → Term Ref) (f : ℕ → A) (n : ℕ) → term_parts first (map t (list_of f n)) ≡ many (λ k. term (t (f k)).coefficient (numbered first (t (f k)).variable) ∷ []) n
  unfolding term_parts list_of many
  terms-many t f zero = refl
  terms-many t f (suc n) = ap (λ ps. term (t (f 0)).coefficient (numbered first (t (f 0)).variable) ∷ ps) (terms-many t (λ k. f (suc k)) n)

  -- ---- rows

  pub one-row : {A : Type 0} (ls : List A) → row_parts first (one_bit ls) ≡ one_row first (length ls)
  unfolding one_bit row_parts one_row
  one-row ls =
      ap₂ (λ (n : ℕ) ps. head Kind.equal n ∷ (ps ++ (constant -1 ∷ []))) (weighted-length one ls 0) (rw (add-zero first) at (same_parts first +1 ls 0))

  pub row_parts-sum_row : (f : ℕ → List Part) (ts : List (Term Ref)) (x : ℕ) {n : ℕ} → length ts ≡ n → term_parts first ts ≡ many f n →
      row_parts first (sum=0 (ts ++ (-1 · source x ∷ [])) +0) ≡ sum_row f n x
  unfolding row_parts sum_row term_parts numbered
  row_parts-sum_row f ts x {n} l e =
      ap₂ (λ (m : ℕ) ps. head Kind.equal m ∷ (ps ++ (constant +0 ∷ []))) (length-append ts (-1 · source x ∷ []) ∙ ap (λ (m : ℕ). m + 1) l)
      (terms-append first ts (-1 · source x ∷ []) ∙ ap (λ ps. ps ++ (term -1 x ∷ [])) e)
      ∙ ap (λ ps. head Kind.equal (n + 1) ∷ ps) (append_assoc (many f n) (term -1 x ∷ []) (constant +0 ∷ []))

  pub chosen-row : {A : Type 0} (f : ℕ → List Part) (w : A → ℤ) (ls : List A) (k x : ℕ) {n : ℕ} → length ls ≡ n → term_parts first (weighted w ls k) ≡ many f n →
      row_parts first (chosen w ls k x) ≡ sum_row f n x
  unfolding chosen
  chosen-row f w ls k x l e = row_parts-sum_row f (weighted w ls k) x (weighted-length w ls k ∙ l) e

  -- bits of the values that bounds leave, and rows after those of the choice
  pub choice-rows : (B : Bounds) (x : ℕ) (qs : List (Row Ref)) →
      flat_map (row_parts first) (one_bit (values B) ∷ chosen (λ j. j) (values B) 0 x ∷ qs) ≡ choice_rows B.lower first (width B) x ++ flat_map (row_parts first) qs
  unfolding flat_map choice_rows
  choice-rows B x qs =
      rw (one-row (values B), chosen-row (label_at B.lower first) (λ j. j) (values B) 0 x (values_length B) (rw (add-zero first) at (labels-parts first B 0)), values_length B)
      (sym (append_assoc (one_row first (width B)) (sum_row (label_at B.lower first) (width B) x) (flat_map (row_parts first) qs)))

  -- labels by places, each with a variable; these stand from a place on
  module _ (β : ℕ → Bounds) (args : List ℕ) (base : ℕ) {A : Type 0} (v : A → ℕ) (f : ℕ → A) (n : ℕ) (same : (k : ℕ) → k < n → v (f k) ≡ var args (base + k)) where
    pub gates-parts : bound_parts (bits (list_of f n) ++ map (λ j. Z (β (v j))) (list_of f n)) ≡ gates β args base n
    unfolding gates Z
    gates-parts =
        bounds-append (bits (list_of f n)) (map (λ j. Z (β (v j))) (list_of f n))
        ∙ ap₂ (λ a b. a ++ b) (bits-parts (list_of f n) ∙ ap (many bit_at) (list_of-length f n))
        (bounds-many (λ j. Z (β (v j))) f n ∙ many_below _ (zero_at β args base) n (λ k h. rw (same k h)))

    pub gated-rows : (m : ℕ) (qs : List (Row Ref)) →
        flat_map (row_parts first) (products v (list_of f n) 0 (length (list_of f n)) ++ (chosen one (list_of f n) (length (list_of f n)) m ∷ qs)) ≡ gated_rows args base first n m ++ flat_map (row_parts first) qs
    unfolding flat_map gated_rows
    gated-rows m qs =
        flat_map_append (row_parts first) (products v (list_of f n) 0 (length (list_of f n))) (chosen one (list_of f n) (length (list_of f n)) m ∷ qs)
        ∙ rw (chosen-row (same_at +1 (first + length (list_of f n))) one (list_of f n) (length (list_of f n)) m refl (same_parts first +1 (list_of f n) (length (list_of f n))), list_of-length f n, gated)
        (sym (append_assoc (many (product_at args base (first + n) first) n) (sum_row (same_at +1 (first + n)) n m) (flat_map (row_parts first) qs)))
      where
        gated : flat_map (row_parts first) (products v (list_of f n) 0 n) ≡ many (product_at args base (first + n) first) n
        gated = products-many first v f n 0 n ∙ many_below _ (product_at args base (first + n) first) n (λ k h. rw (same k h, add-zero first))

  -- the rows over the bits after each label's own
  module _ (β : ℕ → Bounds) where
    later-row : {A : Type 0} (x y k : ℕ) (later : List A) → let K = (β x).upper ⊖ (β y).lower ⊕ +1 in
        row_parts first (sum≤0 (+1 · source x ∷ -1 · source y ∷ weighted (λ l. K) later k) (+1 ⊖ K)) ≡ later_row β x y (first + k) (length later)
    unfolding row_parts later_row term_parts numbered
    later-row x y k later =
        let K = (β x).upper ⊖ (β y).lower ⊕ +1 in
        let e : suc (suc (length (weighted (λ l. K) later k))) ≡ length later + 2 = omega (arith, weighted-length (λ l. K) later k) in
        ap₂ (λ (n : ℕ) ps. head Kind.at_most n ∷ term +1 x ∷ term -1 y ∷ (ps ++ (constant (+1 ⊖ K) ∷ []))) e (same_parts first K later k)

    pub first_only_many : (u w f : ℕ → ℕ) (n k : ℕ) →
        flat_map (row_parts first) (first_only (β) u w (list_of f n) k) ≡ many (λ j. later_row β (u (f j)) (w (f j)) (first + k + (j + 1)) (n - (j + 1))) (n - 1)
    unfolding flat_map first_only list_of many
    first_only_many u w f zero k =
        let e : 0 ≡ 0 - 1 = omega arith in
        ap (many (λ j. later_row β (u (f j)) (w (f j)) (first + k + (j + 1)) (0 - (j + 1)))) e
    first_only_many u w f (suc zero) k =
        let e : 0 ≡ 1 - 1 = omega arith in
        ap (many (λ j. later_row β (u (f j)) (w (f j)) (first + k + (j + 1)) (1 - (j + 1)))) e
    first_only_many u w f (suc (suc n)) k =
        let row : ℕ → List Part = λ j. later_row β (u (f j)) (w (f j)) (first + k + (j + 1)) (suc (suc n) - (j + 1)) in
        let e : suc (suc n - 1) ≡ suc (suc n) - 1 = omega arith in
        let v : first + suc k ≡ first + k + (0 + 1) = omega arith in
        let l : suc (length (list_of (λ j. f (suc (suc j))) n)) ≡ suc (suc n) - (0 + 1) = omega (arith, list_of-length (λ j. f (suc (suc j))) n) in
        ap₂ (λ a b. a ++ b)
        (later-row (u (f 0)) (w (f 0)) (suc k) (f 1 ∷ list_of (λ j. f (suc (suc j))) n) ∙ ap₂ (λ (a b : ℕ). later_row β (u (f 0)) (w (f 0)) a b) v l)
        (first_only_many u w (λ j. f (suc j)) (suc n) (suc k)
        ∙ many-same _ _
        (λ j.
        let a : first + suc k + (j + 1) ≡ first + k + (suc j + 1) = omega arith in
        let b : suc n - (j + 1) ≡ suc (suc n) - (suc j + 1) = omega arith in
        ap₂ (λ (a b : ℕ). later_row β (u (f (suc j))) (w (f (suc j))) a b) a b)
        (suc n - 1))
        ∙ ap (many row) e
