-- The blocks over a shared variable as the code lays them: its bits are consecutive, from `base` on.
use Rattle.std.proofs.Common.{◌≡◌, refl, sym, ap, ap₂, ◌∙◌, Bool, true, false, List, [], ◌∷◌, ◌++◌, append-nil, append_assoc, map, ℕ, zero, suc, ◌+◌, arith, eqb, ℤ, pos, length, get_or, ne_eqb}
use mathlib.Core.List.{flat_map}
use native.Mathlib.Decide.{ℕ_discrete}
use lib.ListN.{length-map}
use Rattle.integers.specs.Choice.{◌if◌else◌}
use Rattle.integers.specs.Number.{◌⊕◌, ◌⊖◌, max_z, count, +0, +1}
use Rattle.integers.specs.Lists.{list_of}
use Rattle.integers.specs.Bounds.{◌to◌, within, width, values}
use Rattle.integers.specs.declared.Bounds.{Bounds}
use Rattle.integers.specs.Terms.{Term, ◌·◌}
use Rattle.integers.proofs.Linear.{linear}
use Rattle.integers.proofs.Tests.{false-true}
use Rattle.integers.proofs.Lists.{flat_map_append}
use Rattle.models.specs.Meaning.{member}
use Rattle.models.specs.Model.{size, var, num, vars, nums, past}
use Rattle.rules.specs.Block.{Ref, numbered}
use Rattle.rules.specs.Parts.{Z, bits, chosen, one, nth, places, members}
use Rattle.rules.specs.Shared.{bit_products, Encoded, choice, first_of, value_bit, new_bits, new_rows, kept, left_out, kept_sum, shared_rule}
use Rattle.rules.proofs.Lengths.{bits-length, values_length}
use Rattle.rules.proofs.Members.{members-values, places-kept}
use Rattle.laying.specs.Part.{times, bound_parts, term_parts, row_parts, block_parts}
use Rattle.laying.specs.Lists.{many, same_at, product_at}
use Rattle.laying.specs.Lists as lists
use Rattle.laying.proofs.Parts.{many-same}
use Rattle.laying.proofs.Lists.{length-vars, length-nums, bits-parts, bounds-append, same_parts, here, further}
use Rattle.encodings.specs.Uses.{choice_of, choosing}
use Rattle.choiceblocks.specs.Rows.{zero_at, number_term_at, member_at, sum_row, choice_rows}
use Rattle.choiceblocks.proofs.OneHot.{many_below, terms-many, bounds-many, row_parts-sum_row, chosen-row, choice-rows}
use Rattle.choiceblocks.proofs.Blocks.{element}
use Rattle.choiceblocks.proofs.Members.{front}
use Rattle.sharedblocks.specs.LeftOut.{keeps}
use Rattle.sharedblocks.specs.Pieces.{bits_from, place_bit, new_bit_parts, new_row_parts, shared_parts, numbers_row, kept_zeros, product_rows, members_row, zero_parts, own_row_parts}
use Rattle.sharedblocks.proofs.LeftOut.{bit-number}

-- two lists of rows, and one more
three : {A B : Type 0} (f : A → List B) (xs ys : List A) (q : A) → flat_map f (xs ++ (ys ++ (q ∷ []))) ≡ flat_map f xs ++ (flat_map f ys ++ f q)
unfolding flat_map
three f xs ys q = flat_map_append f xs (ys ++ (q ∷ [])) ∙ ap (λ l. flat_map f xs ++ l) (flat_map_append f ys (q ∷ []) ∙ ap (λ l. flat_map f ys ++ l) (append-nil (f q)))

-- ---- the new bits

pub bound_parts-new_bits : (β : ℕ → Bounds) (e : Encoded) (x : ℕ) → bound_parts (new_bits β e x) ≡ many lists.bit_at (length (new_bits β e x))
unfolding new_bits bits bound_parts many
bound_parts-new_bits β e x = go (eqb (first_of e x) 0)
  where
    go : (b : Bool) → bound_parts (bits (values (β x)) if b else []) ≡ many lists.bit_at (length (bits (values (β x)) if b else []))
    go true = bits-parts (values (β x)) ∙ ap (many lists.bit_at) (sym (bits-length (values (β x))))
    go false = refl

pub length-new_bits : (β : ℕ → Bounds) (e : Encoded) (x : ℕ) → eqb (first_of e x) 0 ≡ true → length (new_bits β e x) ≡ width (β x)
unfolding new_bits bits
length-new_bits β e x h = rw h (length-map (values (β x)) _ ∙ values_length (β x))

pub no_bits : (β : ℕ → Bounds) (e : Encoded) (x : ℕ) → eqb (first_of e x) 0 ≡ false → length (new_bits β e x) ≡ 0
unfolding new_bits
no_bits β e x h = rw h

pub own-rows : (β : ℕ → Bounds) (e : Encoded) (x first : ℕ) → eqb (first_of e x) 0 ≡ true →
    flat_map (row_parts first) (new_rows β e x) ≡ choice_rows (β x).lower first (width (β x)) x
unfolding new_rows flat_map
own-rows β e x first h = rw h (choice-rows first (β x) x [] ∙ append-nil _)

pub no_rows : (β : ℕ → Bounds) (e : Encoded) (x first : ℕ) → eqb (first_of e x) 0 ≡ false → flat_map (row_parts first) (new_rows β e x) ≡ []
unfolding new_rows flat_map
no_rows β e x first h = rw h

-- ---- rows over the bits

-- the bit of the first place of a list that x can have, and of the k-th after it
place-number : (β : ℕ → Bounds) (e : Encoded) (first x n k : ℕ) → numbered first (value_bit β e x ((places (β x) n).lower ⊕ pos k)) ≡ place_bit e first x (β x).lower + k
unfolding places
place-number β e first x n k = bit-number β e first x (max_z +1 (β x).lower ⊕ pos k) ∙ later-bit (bits_from e first x) (β x).lower k
  where
    later-bit : (b : ℕ) (l : ℤ) (k : ℕ) → b + count (max_z +1 l ⊕ pos k ⊖ l) ≡ b + count (max_z +1 l ⊖ l) + k
    later-bit = simp linear (omega arith)

products-many : (first : ℕ) {A : Type 0} (x : A → ℕ) (b : A → Ref) (f : ℕ → A) (n m : ℕ) →
    flat_map (row_parts first) (bit_products x b (list_of f n) m) ≡ many (λ j. times (first + m + j) (x (f j)) (numbered first (b (f j))) ∷ []) n
unfolding flat_map row_parts bit_products numbered list_of many
products-many first x b f zero m = refl
products-many first x b f (suc n) m =
    ap₂ (λ (z : ℕ) ps. times z (x (f 0)) (numbered first (b (f 0))) ∷ ps) (here first m)
    (products-many first x b (λ j. f (suc j)) n (suc m)
    ∙ many-same _ _ (λ j. ap (λ (z : ℕ). times z (x (f (suc j))) (numbered first (b (f (suc j)))) ∷ []) (further first m j)) n)

module _ (β : ℕ → Bounds) (args : List ℕ) where
  abbrev x : ℕ
  x = var args 0

  abbrev P : Bounds
  P = places (β x) (size args 1)

  abbrev at : ℕ
  at = 1 + count P.lower

  pub kept-zeros : kept_zeros β args ≡ many (zero_at β args at) (width P)
  unfolding kept_zeros values vars Z
  kept-zeros =
      rw (length-vars args 1, places-kept (β x) (size args 1))
      (bounds-many (λ j. Z (β (nth 0 (vars args 1) j))) (λ k. P.lower ⊕ pos k) (width P)
      ∙ many_below _ (zero_at β args at) (width P) (λ k h. rw (element 0 (var args) (β x) (size args 1) k h)))

  module _ (e : Encoded) (first : ℕ) where
    pub numbers-row : numbers_row β args e first ≡ sum_row (number_term_at args at (place_bit e first x (β x).lower)) (width P) (var args (past args 1))
    unfolding numbers_row kept_sum kept values nums
    numbers-row =
        rw (length-nums args 1, places-kept (β x) (size args 1))
        (row_parts-sum_row first (number_term_at args at (place_bit e first x (β x).lower)) (map t (values P)) (var args (past args 1)) (length-map (values P) t ∙ values_length P)
        (terms-many first t (λ k. P.lower ⊕ pos k) (width P)
        ∙ many_below _ _ (width P) (λ k h. rw (element +0 (num args) (β x) (size args 1) k h, place-number β e first x (size args 1) k))))
      where
        t : ℤ → Term Ref
        t v = nth +0 (nums args 1) v · value_bit β e x v

    pub product-rows : let n = length (new_bits β e x) in
        product_rows β args e first ≡ many (product_at args at (first + n) (place_bit e first x (β x).lower)) (width P) ++ sum_row (same_at +1 (first + n)) (width P) (var args (past args 1))
    unfolding product_rows values vars flat_map
    product-rows =
        let n = length (new_bits β e x) in
        let f : ℕ → ℤ = λ k. P.lower ⊕ pos k in
        let v = nth 0 (vars args 1) in
        rw (length-vars args 1, places-kept (β x) (size args 1))
        (flat_map_append (row_parts first) (bit_products v (value_bit β e x) (values P) n) (chosen one (values P) n (var args (past args 1)) ∷ [])
        ∙ ap₂ (λ a b. a ++ b)
        (products-many first v (value_bit β e x) f (width P) n
        ∙ many_below _ (product_at args at (first + n) (place_bit e first x (β x).lower)) (width P) (λ k h. rw (element 0 (var args) (β x) (size args 1) k h, place-number β e first x (size args 1) k)))
        (append-nil _ ∙ chosen-row first (same_at +1 (first + n)) one (values P) n (var args (past args 1)) (values_length P) (same_parts first +1 (values P) n ∙ ap (many (same_at +1 (first + n))) (values_length P))))

    pub members-row : (out : List ℤ) → ((k : ℕ) → get_or out k +0 ≡ get_or (members (nums args 1) (β x)) k +0) →
        members_row β args e first ≡ sum_row (member_at out (β x).lower (bits_from e first x)) (length (members (nums args 1) (β x))) (var args (past args 1))
    unfolding members_row kept_sum kept
    members-row out same =
        rw (← members-values (nums args 1) (β x))
        (row_parts-sum_row first (member_at out (β x).lower (bits_from e first x)) (map t vs) (var args (past args 1)) (length-map vs t)
        (ap (λ l. term_parts first (map t l)) (front first out vs same)
        ∙ terms-many first t (λ k. get_or out k +0) (length vs)
        ∙ many-same _ _ (λ k. rw (bit-number β e first x (get_or out k +0))) (length vs)))
      where
        vs : List ℤ
        vs = members (nums args 1) (β x)

        t : ℤ → Term Ref
        t v = +1 · value_bit β e x v

    -- ---- the blocks, piece by piece

    abbrev Pieced : ℕ → Type 0
    Pieced code = shared_parts β e first code args ≡ new_bit_parts β e args ++ (zero_parts β code args ++ (new_row_parts β e first args ++ own_row_parts β e first code args))

    block-24 : Pieced 24
    unfolding shared_rule choice_of choice block_parts numbers_row keeps own_row_parts
    block-24 = rw (length-nums args 1) (ap (λ ps. bound_parts (new_bits β e x) ++ ps) (three (row_parts first) (new_rows β e x) (left_out β e (within (+1 to pos (size args 1))) x) _))

    block-25 : Pieced 25
    unfolding shared_rule choice_of choice block_parts kept_zeros product_rows keeps own_row_parts
    block-25 =
        rw (length-vars args 1)
        (ap₂ (λ a b. a ++ b) (bounds-append (new_bits β e x) _)
        (flat_map_append (row_parts first) (new_rows β e x) _
        ∙ ap (λ ps. flat_map (row_parts first) (new_rows β e x) ++ ps) (flat_map_append (row_parts first) (left_out β e (within (+1 to pos (size args 1))) x) _))
        ∙ append_assoc (bound_parts (new_bits β e x)) _ _)

    block-27 : Pieced 27
    unfolding shared_rule choice_of choice block_parts keeps own_row_parts
    block-27 = ap (λ ps. bound_parts (new_bits β e x) ++ ps) (flat_map_append (row_parts first) (new_rows β e x) (left_out β e (λ v. member v (nums args 1)) x) ∙ ap (λ ps. flat_map (row_parts first) (new_rows β e x) ++ ps) (sym (append-nil _)))

    block-28 : Pieced 28
    unfolding shared_rule choice_of choice block_parts members_row flat_map own_row_parts
    block-28 =
        ap (λ ps. bound_parts (new_bits β e x) ++ ps)
        (flat_map_append (row_parts first) (new_rows β e x) _ ∙ ap (λ ps. flat_map (row_parts first) (new_rows β e x) ++ ps) (append-nil _))

    pub pieced : (code : ℕ) → choosing code ≡ true → Pieced code
    unfolding choosing
    pieced code h = go (ℕ_discrete code 24) (ℕ_discrete code 25) (ℕ_discrete code 27) (ℕ_discrete code 28)
      where
        go : Dec (code ≡ 24) → Dec (code ≡ 25) → Dec (code ≡ 27) → Dec (code ≡ 28) → Pieced code
        go (yes k) p q r = rw k block-24
        go (no n) (yes k) q r = rw k block-25
        go (no n) (no m) (yes k) r = rw k block-27
        go (no n) (no m) (no l) (yes k) = rw k block-28
        go (no n) (no m) (no l) (no j) = false-true (rw (ne_eqb code 24 n, ne_eqb code 25 m, ne_eqb code 27 l, ne_eqb code 28 j) at h)
