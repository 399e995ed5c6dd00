-- 02, wish 7: the blocks over a shared variable are well formed, where earlier blocks' bits are declared before them and its values are at most 64.
use Rattle.std.proofs.Common.{◌≡◌, refl, sym, ap, ◌∙◌, inl, inr, Bool, true, false, not, ◌&&◌, ◌||◌, List, [], ◌∷◌, map, ℕ, suc, ◌+◌, ◌≤◌, ◌<◌, arith, eqb, ltb, ℤ, pos, length, length-append, eq-eqb, ltb-false}
use lib.ListN.{length-map}
use Rattle.integers.specs.Choice.{◌if◌else◌}
use Rattle.integers.specs.Number.{◌⊖◌, count, +0, +1}
use Rattle.integers.specs.Lists.{all, any}
use Rattle.integers.specs.Bounds.{◌to◌, within, width, values}
use Rattle.integers.specs.Terms.{◌·◌}
use Rattle.integers.specs.declared.Bounds.{Bounds}
use Rattle.integers.proofs.Lists.{all_append, all-mapped, all_made, all-members}
use Rattle.integers.proofs.Tests.{Says, says-within, In, All, Member, false-true}
use Rattle.words.specs.Limit as Limit
use Rattle.models.specs.Builtin.{Builtin}
use Rattle.models.specs.Meaning.{member}
use Rattle.models.specs.Model.{Constraint}
use Rattle.models.proofs.Arguments.{integer_arguments, boolean_arguments}
use Rattle.rowsystems.specs.Row.{sum=0}
use Rattle.rowsystems.proofs.Ordered.{Ordered}
use Rattle.rules.specs.Block.{source, aux}
use Rattle.rules.specs.Parts.{Z, bits, one, one_bit, chosen, nth}
use Rattle.rules.specs.Check.{too_wide}
use Rattle.rules.specs.Shared.{Choice, choice, encodes, shares, Encoded, first_of, encoded_after, value_bit, new_bits, new_rows, kept, left_out, kept_sum, shared_rule, bit_products, keep}
use Rattle.rules.proofs.Lengths.{values_length, bits-length}
use Rattle.rules.proofs.Members.{keep-both, values-member, keep-member}
use Rattle.sharing.proofs.Places.{value-place}
use Rattle.sharing.proofs.Elements.{nth-all}
use Rattle.sharing.proofs.Formed.{RefIn, TermIn, RowIn, Formed, bits-ordered, Z-ordered, less_in, chosen_in, choice_in}
use Rattle.sharing.proofs.Codes.{any-one}
use Rattle.sharing.proofs.Encoding.{says-eqb, entered}
use Rattle.sharing.proofs.Choices.{View, is-element, is_var_element, is_set, is_set_reif, other, view, not-shared}

-- the bits of every encoded variable are declared before `first`
abbrev pub Declared : (ℕ → Bounds) → ℕ → Encoded → Type 0
Declared β first e = (x : ℕ) → ¬ (first_of e x ≡ 0) → first_of e x + width (β x) ≤ first

kept_in_bounds : (t : ℤ → Bool) (B : Bounds) → All (In B) (keep t (values B))
kept_in_bounds t B = (all-members (In B) (keep t (values B))).1 (λ v m. (values-member B v).0 ((keep-member t v (values B)).0 m).0)

module _ (N : ℕ) (β : ℕ → Bounds) (e : Encoded) (x : ℕ) (before : ¬ (first_of e x ≡ 0) → first_of e x + width (β x) ≤ N) (small : width (β x) ≤ Limit.set_bits) where
  -- the block's own bits are among m auxiliaries
  bit_in : (m : ℕ) → length (new_bits β e x) ≤ m → (v : ℤ) → In (β x) v → RefIn N m (value_bit β e x v)
  unfolding value_bit new_bits
  bit_in m l v h = go (eqb (first_of e x) 0) (says-eqb (first_of e x) 0) l
    where
      k : count (v ⊖ (β x).lower) < width (β x)
      k = value-place (β x) v h

      go : (b : Bool) → Says b (first_of e x ≡ 0) → length (bits (values (β x)) if b else []) ≤ m → RefIn N m (aux (count (v ⊖ (β x).lower)) if b else source (first_of e x + count (v ⊖ (β x).lower)))
      go true s l = omega (arith, k, bits-length (values (β x)), values_length (β x))
      go false s l = omega (arith, k, before (λ z. false-true (s.1 z)))

  kept_in : (m : ℕ) → length (new_bits β e x) ≤ m → (w : ℤ → ℤ) (t : ℤ → Bool) → All (TermIn N m) (kept β e w t x)
  unfolding kept
  kept_in m l w t = all-mapped (λ v. w v · value_bit β e x v) (In (β x)) (TermIn N m) (λ v h. bit_in m l v h) (keep t (values (β x))) (kept_in_bounds t (β x))

  kept-short : (w : ℤ → ℤ) (t : ℤ → Bool) → length (kept β e w t x) ≤ Limit.set_bits
  unfolding kept
  kept-short w t = simp length-map (omega (arith, keep-both t (values (β x)), values_length (β x)))

  new_rows_in : (m : ℕ) → length (new_bits β e x) ≤ m → x < N → All (RowIn N m) (new_rows β e x)
  unfolding new_bits new_rows
  new_rows_in m l h = go (eqb (first_of e x) 0) l
    where
      go : (b : Bool) → length (bits (values (β x)) if b else []) ≤ m → All (RowIn N m) (one_bit (values (β x)) ∷ chosen (λ v. v) (values (β x)) 0 x ∷ [] if b else [])
      go true l =
          let p : length (values (β x)) ≤ m = omega (arith, bits-length (values (β x))) in
          choice_in N m (values (β x)) x p (omega (arith, values_length (β x))) h tt
      go false l = tt

  left_out_in : (m : ℕ) → length (new_bits β e x) ≤ m → (t : ℤ → Bool) → All (RowIn N m) (left_out β e t x)
  unfolding left_out
  left_out_in m l t = go (all t (values (β x)))
    where
      go : (b : Bool) → All (RowIn N m) ([] if b else sum=0 (kept β e one (λ v. not (t v)) x) +0 ∷ [])
      go true = tt
      go false = ((omega (arith, kept-short one (λ v. not (t v))), kept_in m l one (λ v. not (t v))), tt)

  kept_sum_in : (m : ℕ) → length (new_bits β e x) ≤ m → (w : ℤ → ℤ) (t : ℤ → Bool) (y : ℕ) → y < N → RowIn N m (kept_sum β e w t x y)
  unfolding kept_sum
  kept_sum_in m l w t y h = less_in N m (kept β e w t x) y (omega (arith, kept-short w t)) h (kept_in m l w t)

  new_bits-ordered : All Ordered (new_bits β e x)
  unfolding new_bits
  new_bits-ordered = go (eqb (first_of e x) 0)
    where
      go : (b : Bool) → All Ordered (bits (values (β x)) if b else [])
      go true = bits-ordered (values (β x))
      go false = tt

  bit_products_in : (m : ℕ) (f : ℤ → ℕ) (ls : List ℤ) (k : ℕ) → length (new_bits β e x) ≤ k → k + length ls ≤ m → All (In (β x)) ls → All (λ l. f l < N) ls →
      All (RowIn N m) (bit_products f (value_bit β e x) ls k)
  unfolding bit_products
  bit_products_in m f [] k l s h d = tt
  bit_products_in m f (y ∷ ls) k l s h d = ((omega arith, d.0, bit_in k l y h.0), bit_products_in m f ls (suc k) (omega arith) (omega arith) h.1 d.1)

-- of each encoded variable
abbrev pub Narrow : (ℕ → Bounds) → Choice → Type 0
Narrow β ch = (x : ℕ) → Member x (encodes ch) → width (β x) ≤ Limit.set_bits

pub shared-formed : (N : ℕ) (β : ℕ → Bounds) (e : Encoded) (s : ℕ → Bool) {ch : Choice} {b : Builtin} → View ch b → shares s ch ≡ true → Declared β N e → Narrow β ch →
    All (λ v. v < N) (integer_arguments b) → All (λ v. v < N) (boolean_arguments b) → Formed N (shared_rule β e ch)
unfolding shared_rule encodes integer_arguments boolean_arguments
shared-formed N β e s (is-element i ns c) h d w k l =
    let t = within (+1 to pos (length ns)) in
    let n = w i (inl refl) in
    let m = length (new_bits β e i) in (
      new_bits-ordered N β e i (d i) n,
      (all_append (RowIn N m) (new_rows β e i) _).1 (
        new_rows_in N β e i (d i) n m (omega arith) k.0,
        (all_append (RowIn N m) (left_out β e t i) _).1 (left_out_in N β e i (d i) n m (omega arith) t, (kept_sum_in N β e i (d i) n m (omega arith) (nth +0 ns) t c k.1.0, tt)),
      ),
    )
shared-formed N β e s (is_var_element i xs c) h d w k l =
    let B : Bounds = +1 to pos (length xs) in
    let js = keep (within B) (values (β i)) in
    let n = w i (inl refl) in
    let q = length (new_bits β e i) in
    let m = q + length js in
    let short = keep-both (within B) (values (β i)) in
    let named : All (λ j. nth 0 xs j < N) js =
    (all-members (λ j. nth 0 xs j < N) js).1 (λ j y. nth-all (λ v. v < N) 0 xs j ((says-within B j).0 ((keep-member (within B) j (values (β i))).0 y).1) k.1.1) in (
      (all_append Ordered (new_bits β e i) (map (λ j. Z (β (nth 0 xs j))) js)).1 (new_bits-ordered N β e i (d i) n, all_made (λ j. Z (β (nth 0 xs j))) Ordered (λ j. Z-ordered (β (nth 0 xs j))) js),
      rw (length-append, length-map)
          ((all_append (RowIn N m) (new_rows β e i) _).1 (
            new_rows_in N β e i (d i) n m (omega arith) k.0,
            (all_append (RowIn N m) (left_out β e (within B) i) _).1 (
              left_out_in N β e i (d i) n m (omega arith) (within B),
              (all_append (RowIn N m) (bit_products (nth 0 xs) (value_bit β e i) js q) (chosen one js q c ∷ [])).1 (
                bit_products_in N β e i (d i) n m (nth 0 xs) js q (omega arith) (omega arith) (kept_in_bounds (within B) (β i)) named,
                (chosen_in N m one js q c (omega arith) (omega (arith, values_length (β i), short)) k.1.0, tt),
              ),
            ),
          )),
    )
shared-formed N β e s (is_set x S) h d w k l =
    let n = w x (inl refl) in
    let m = length (new_bits β e x) in
    (new_bits-ordered N β e x (d x) n, (all_append (RowIn N m) (new_rows β e x) _).1 (new_rows_in N β e x (d x) n m (omega arith) k.0, left_out_in N β e x (d x) n m (omega arith) (λ v. member v S)))
shared-formed N β e s (is_set_reif x S r) h d w k l =
    let n = w x (inl refl) in
    let m = length (new_bits β e x) in (
      new_bits-ordered N β e x (d x) n,
      (all_append (RowIn N m) (new_rows β e x) _).1 (new_rows_in N β e x (d x) n m (omega arith) k.0, (kept_sum_in N β e x (d x) n m (omega arith) one (λ v. member v S) r l.0, tt)),
    )
shared-formed N β e s (other b) h d w k l = not-shared s h

-- ---- what the check gives

pub narrow : (β : ℕ → Bounds) (s : ℕ → Bool) (c : Constraint) → too_wide β s c ≡ false → shares s (choice c) ≡ true → Narrow β (choice c)
unfolding too_wide shares encodes
narrow β s c e h = go (view c) e h
  where
    q : Bool
    q = eqb c.code 28

    one-of : (r t u : Bool) → t ≡ true → ((r || t) && u) ≡ false → u ≡ false
    one-of true true u p k = k
    one-of false true u p k = k
    one-of r false u p k = false-true p

    wide : ℕ → Bool
    wide x = (q || s x) && ltb Limit.set_bits (width (β x))

    at : (x : ℕ) → any s (x ∷ []) ≡ true → any wide (x ∷ []) ≡ false → (y : ℕ) → Member y (x ∷ []) → width (β y) ≤ Limit.set_bits
    at x p k y (inl m) = rw m (ltb-false _ _ (one-of q (s x) _ (sym (any-one s x) ∙ p) (sym (any-one wide x) ∙ k)))
    at x p k y (inr m) = absurd m

    go : {ch : Choice} {b : Builtin} → View ch b → any wide (encodes ch) ≡ false → any s (encodes ch) ≡ true → Narrow β ch
    go (is-element i ns c) e h = at i h e
    go (is_var_element i xs c) e h = at i h e
    go (is_set x S) e h = at x h e
    go (is_set_reif x S r) e h = at x h e
    go (other b) e h = not-shared s h

-- ---- the record after a block

new_bits_counted : (β : ℕ → Bounds) (e : Encoded) (x : ℕ) → first_of e x ≡ 0 → length (new_bits β e x) ≡ width (β x)
unfolding new_bits
new_bits_counted β e x z = rw (eq-eqb (first_of e x) 0 z, bits-length (values (β x)), values_length (β x))

-- the block of the first of the constraints has a bit for each value
new_counted : (β : ℕ → Bounds) (s : ℕ → Bool) (e : Encoded) (v : ℕ) {ch : Choice} {b : Builtin} → View ch b → shares s ch ≡ true → Member v (encodes ch) → first_of e v ≡ 0 →
    width (β v) ≤ length (shared_rule β e ch).auxiliaries
unfolding encodes shared_rule
new_counted β s e v (is-element i ns c) h (inl m) z = omega (arith, ap (λ y. length (new_bits β e y)) m, new_bits_counted β e v z)
new_counted β s e v (is-element i ns c) h (inr m) z = absurd m
new_counted β s e v (is_var_element i xs c) h (inl m) z = simp length-append (omega (arith, ap (λ y. length (new_bits β e y)) m, new_bits_counted β e v z))
new_counted β s e v (is_var_element i xs c) h (inr m) z = absurd m
new_counted β s e v (is_set x S) h (inl m) z = omega (arith, ap (λ y. length (new_bits β e y)) m, new_bits_counted β e v z)
new_counted β s e v (is_set x S) h (inr m) z = absurd m
new_counted β s e v (is_set_reif x S r) h (inl m) z = omega (arith, ap (λ y. length (new_bits β e y)) m, new_bits_counted β e v z)
new_counted β s e v (is_set_reif x S r) h (inr m) z = absurd m
new_counted β s e v (other b) h m z = not-shared s h

pub shares-any : (s : ℕ → Bool) (ch : Choice) → any s (encodes ch) ≡ true → shares s ch ≡ true
unfolding shares
shares-any s ch h = h

pub declared-after : (β : ℕ → Bounds) (s : ℕ → Bool) (first : ℕ) (e : Encoded) {ch : Choice} {b : Builtin} → View ch b → (size : ℕ) →
    (shares s ch ≡ true → size ≡ length (shared_rule β e ch).auxiliaries) → Declared β first e →
    Declared β (first + size) (encoded_after s first e (encodes ch))
declared-after β s first e {ch} w size same d v n =
    elim (entered s first e (encodes ch) v) [
      | inl p ↦ omega (arith, p, d v (λ z. n (p ∙ z)))
      | inr p ↦ omega (arith, p.0, same (shares-any s ch p.1), new_counted β s e v w (shares-any s ch p.1) p.2 p.3)
    ]
