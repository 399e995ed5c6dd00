-- The blocks of codes 24 to 28 and 33 as the code lays them.
use Rattle.std.proofs.Common.{◌≡◌, refl, sym, ap, ap₂, ◌∙◌, Bool, List, [], ◌∷◌, ◌++◌, append_assoc, append-nil, map, ℕ, ◌+◌, ◌-◌, ◌<◌, add-zero, arith, ℤ, pos, length, get_or}
use mathlib.Core.List.{flat_map}
use lib.ListN.{length-map}
use Rattle.integers.specs.Number.{◌⊕◌, ◌⊖◌, min_z, max_z, count, +0, +1, -1}
use Rattle.integers.specs.Choice.{◌if◌else◌}
use Rattle.integers.specs.Lists.{list_of}
use Rattle.integers.specs.Bounds.{width, values}
use Rattle.integers.specs.declared.Bounds.{Bounds}
use Rattle.integers.specs.Terms.{◌·◌}
use Rattle.integers.proofs.Lists.{list_of-length, flat_map_append}
use Rattle.integers.proofs.Linear.{linear}
use Rattle.integers.proofs.Places.{get_or-list_of}
use Rattle.models.specs.Builtin.{array_int_element, array_var_int_element, set_in, set_in_reif}
use Rattle.models.specs.Model.{size, var, num, vars, nums}
use Rattle.rowsystems.specs.Row.{Row, sum=0}
use Rattle.rules.specs.Block.{Ref, source, aux, block}
use Rattle.rules.specs.Parts.{◌─◌≤0, bits, one_bit, chosen, products, one, nth, places, members}
use Rattle.rules.specs.Rule.{rule, number_element, variable_element, first_only, one_of, in_set, in_set_reified}
use Rattle.laying.specs.Part.{block_parts, row_parts}
use Rattle.laying.specs.Lists.{many, bit_at, order_at}
use Rattle.rules.proofs.Lengths.{values_length}
use Rattle.laying.proofs.Lists.{length-vars, length-nums, bits-parts, weighted-many, order-parts}
use Rattle.choiceblocks.specs.Rows.{number_term_at, value_at, member_at, one_row, sum_row, choice_rows, gates, gated_rows, first_at, one_of_parts, extreme_of}
use Rattle.choiceblocks.proofs.OneHot.{many_below, one-row, row_parts-sum_row, chosen-row, choice-rows, gates-parts, gated-rows, first_only_many}
use Rattle.choiceblocks.proofs.Members.{value-terms, member-terms}

-- the k-th of the places that an index can have: where the element at it stands among the arguments, whose list begins at place 2
place : (l u : ℤ) (n k : ℕ) → k < count (min_z (pos n) u ⊖ max_z +1 l ⊕ +1) → (count (max_z +1 l ⊕ pos k) - 1 < n) × (1 + 1 + (count (max_z +1 l ⊕ pos k) - 1) ≡ 1 + count (max_z +1 l) + k)
place = simp linear (omega arith)

pub element : {A : Type 0} (d : A) (g : ℕ → A) (I : Bounds) (n k : ℕ) → k < width (places I n) → nth d (list_of (λ j. g (1 + 1 + j)) n) ((places I n).lower ⊕ pos k) ≡ g (1 + count (places I n).lower + k)
unfolding places width nth
element d g I n k h =
    let p = place I.lower I.upper n k h in
    get_or-list_of (λ j. g (1 + 1 + j)) n (count (max_z +1 I.lower ⊕ pos k) - 1) d p.0 ∙ ap g p.1

module _ (first : ℕ) where
  -- bits of the values that bounds leave: 24 and 28
  choice-block : (B : Bounds) (x : ℕ) (q : Row Ref) → block_parts first (block (bits (values B)) (one_bit (values B) ∷ chosen (λ j. j) (values B) 0 x ∷ q ∷ [])) ≡ many bit_at (width B) ++ (choice_rows B.lower first (width B) x ++ row_parts first q)
  unfolding block_parts flat_map
  choice-block B x q = ap₂ (λ a b. a ++ b) (bits-parts (values B) ∙ ap (many bit_at) (values_length B)) (choice-rows first B x (q ∷ []) ∙ ap (λ ps. choice_rows B.lower first (width B) x ++ ps) (append-nil (row_parts first q)))

  number-row : (args : List ℕ) (I : Bounds) (c : ℕ) → let B = places I (size args 1) in
      row_parts first (chosen (nth +0 (nums args 1)) (values B) 0 c) ≡ sum_row (number_term_at args (1 + count B.lower) first) (width B) c
  unfolding nums values
  number-row args I c =
      let B = places I (size args 1) in
      chosen-row first (number_term_at args (1 + count B.lower) first) (nth +0 (nums args 1)) (values B) 0 c (values_length B)
      (weighted-many first (nth +0 (nums args 1)) (λ k. B.lower ⊕ pos k) (width B) 0
      ∙ many_below _ (number_term_at args (1 + count B.lower) first) (width B) (λ k h. rw (element +0 (num args) I (size args 1) k h, add-zero first)))

  pub number-element : (β : ℕ → Bounds) (args : List ℕ) (i c : ℕ) → let B = places (β i) (size args 1) in
      block_parts first (rule β (array_int_element i (nums args 1) c))
      ≡ many bit_at (width B) ++ (choice_rows B.lower first (width B) i ++ sum_row (number_term_at args (1 + count B.lower) first) (width B) c)
  unfolding rule number_element
  number-element β args i c =
      let B = places (β i) (size args 1) in
      rw (length-nums args 1)
      (choice-block B i (chosen (nth +0 (nums args 1)) (values B) 0 c)
      ∙ ap (λ ps. many bit_at (width B) ++ (choice_rows B.lower first (width B) i ++ ps)) (number-row args (β i) c))

  -- of the arguments
  module _ (β : ℕ → Bounds) (args : List ℕ) where
    pub variable-element : (i c : ℕ) → let B = places (β i) (size args 1) in
        block_parts first (rule (β) (array_var_int_element i (vars args 1) c))
        ≡ gates β args (1 + count B.lower) (width B) ++ (choice_rows B.lower first (width B) i ++ gated_rows args (1 + count B.lower) first (width B) c)
    unfolding rule variable_element block_parts flat_map vars values
    variable-element i c =
        let I = β i in
        let B = places I (size args 1) in
        let f : ℕ → ℤ = λ k. B.lower ⊕ pos k in
        let x = nth 0 (vars args 1) in
        let same = element 0 (var args) I (size args 1) in
        rw (length-vars args 1)
        (ap₂ (λ a b. a ++ b) (gates-parts first β args (1 + count B.lower) x f (width B) same)
        (choice-rows first B i (products x (values B) 0 (length (values B)) ++ (chosen one (values B) (length (values B)) c ∷ []))
        ∙ ap (λ ps. choice_rows B.lower first (width B) i ++ ps) (gated-rows first β args (1 + count B.lower) x f (width B) same c [] ∙ append-nil _)))

    -- the parts of the rows over later bits, then those of the block
    first_only_parts : (up : Bool) (m : ℕ) → flat_map (row_parts first) (first_only (β) (λ x. x if up else m) (λ x. m if up else x) (vars args 1) 0)
        ≡ many (first_at β (λ k. var args (2 + k) if up else m) (λ k. m if up else var args (2 + k)) first (size args 1)) (size args 1 - 1)
    unfolding vars
    first_only_parts up m =
        rw (add-zero first) at (first_only_many first β (λ x. x if up else m) (λ x. m if up else x) (λ k. var args (1 + 1 + k)) (size args 1) 0)

    pub extreme-parts : (up : Bool) → let m = var args 0 in
        block_parts first (extreme_of (β) up m (vars args 1))
        ≡ one_of_parts β args first ++ (many (order_at args 2 m up) (size args 1) ++ many (first_at β (λ k. var args (2 + k) if up else m) (λ k. m if up else var args (2 + k)) first (size args 1)) (size args 1 - 1))
    unfolding one_of one_of_parts block_parts flat_map vars
    extreme-parts up =
        ap₂ (λ a b. a ++ b) (gates-parts first β args 2 (λ x. x) f n (λ k h. refl))
        (ap₂ (λ a b. a ++ b) (one-row first (list_of f n) ∙ ap (one_row first) (list_of-length f n))
        (gated-rows first β args 2 (λ x. x) f n (λ k h. refl) m (order ++ first-only)
        ∙ ap (λ ps. gated_rows args 2 first n m ++ ps) (flat_map_append (row_parts first) order first-only ∙ ap₂ (λ a b. a ++ b) (order-parts first args 1 m up) (first_only_parts up m))))
        ∙ ap (λ ps. gates β args 2 n ++ ps) (sym (append_assoc (one_row first n) _ _))
        ∙ sym (append_assoc (gates β args 2 n) _ _)
      where
        f : ℕ → ℕ
        f k = var args (1 + 1 + k)

        n : ℕ
        n = size args 1

        m : ℕ
        m = var args 0

        order : List (Row Ref)
        order = map (λ x. source (x if up else m) ─ source (m if up else x) ≤0) (list_of f n)

        first-only : List (Row Ref)
        first-only = first_only (β) (λ x. x if up else m) (λ x. m if up else x) (list_of f n) 0

  -- the members of a set, in a list that reads as they do
  module _ (β : ℕ → Bounds) (S out : List ℤ) (x : ℕ) (same : (k : ℕ) → get_or out k +0 ≡ get_or (members S (β x)) k +0) where
    pub block_parts-set_in : let n = length (members S (β x)) in block_parts first (rule β (set_in x S)) ≡ many bit_at n ++ (one_row first n ++ sum_row (value_at out first) n x)
    unfolding rule in_set block_parts flat_map
    block_parts-set_in =
        let vs = members S (β x) in
        ap₂ (λ a b. a ++ b) (bits-parts vs)
        (ap₂ (λ a b. a ++ b) (one-row first vs) (append-nil _ ∙ chosen-row first (value_at out first) (λ v. v) vs 0 x refl (value-terms first out vs same)))

    pub block_parts-set_in_reif : (r : ℕ) → let B = β x in
        block_parts first (rule β (set_in_reif x S r)) ≡ many bit_at (width B) ++ (choice_rows B.lower first (width B) x ++ sum_row (member_at out B.lower first) (length (members S B)) r)
    unfolding rule in_set_reified
    block_parts-set_in_reif r =
        let B = β x in
        let ts = map (λ v. +1 · aux (count (v ⊖ B.lower))) (members S B) in
        choice-block B x (sum=0 (ts ++ (-1 · source r ∷ [])) +0)
        ∙ ap (λ ps. many bit_at (width B) ++ (choice_rows B.lower first (width B) x ++ ps))
        (row_parts-sum_row first (member_at out B.lower first) ts r (length-map (members S B) (λ v. +1 · aux (count (v ⊖ B.lower)))) (member-terms first out (members S B) same B.lower))
