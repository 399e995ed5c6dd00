-- 02, wish 7: the words of a block, that of a shared variable or 01's own, are few.
use Rattle.std.proofs.Common.{◌≡◌, refl, inl, Bool, true, false, not, List, [], ◌∷◌, ℕ, suc, ◌+◌, ◌≤◌, ◌*◌, arith, eqb, ℤ, pos, length}
use lib.ListN.{length-map}
use Rattle.integers.specs.Choice.{◌if◌else◌}
use Rattle.integers.specs.Number.{+0, +1}
use Rattle.integers.specs.Lists.{all}
use Rattle.integers.specs.Bounds.{◌to◌, within, values}
use Rattle.integers.specs.declared.Bounds.{Bounds}
use Rattle.models.specs.Builtin.{Builtin}
use Rattle.models.specs.Meaning.{member}
use Rattle.models.specs.Model.{Constraint, builtin}
use Rattle.models.proofs.Arguments.{builtin_words}
use Rattle.rowsystems.specs.Row.{sum=0}
use Rattle.rules.specs.Block.{Ref, Block, block_words}
use Rattle.rules.specs.Parts.{bits, one, one_bit, chosen}
use Rattle.rules.specs.Rule.{rule}
use Rattle.rules.specs.Shared.{Choice, choice, encodes, shares, Encoded, first_of, keep, bit_products, new_bits, new_rows, kept, left_out, kept_sum, shared_rule, rule_after}
use Rattle.rules.specs.Translation.{block_of}
use Rattle.rules.specs.Check.{too_wide}
use Rattle.rules.proofs.Lengths.{values_length}
use Rattle.rules.proofs.Members.{keep-both}
use Rattle.sharing.proofs.Sizes.{total, row_size, block-length}
use Rattle.sharing.proofs.Codes.{lengths, laws, sized}
use Rattle.sharing.proofs.Choices.{View, is-element, is_var_element, is_set, is_set_reif, other, view, not-shared}
use Rattle.sharing.proofs.ChoicesFormed.{Narrow, narrow}

module _ (β : ℕ → Bounds) (e : Encoded) (x : ℕ) where
  -- the rows of the new bits take four words for each, and six more
  new_rows-size : total row_size (new_rows β e x) ≤ 4 * length (new_bits β e x) + 6
  unfolding new_rows new_bits one_bit chosen
  new_rows-size = go (eqb (first_of e x) 0)
    where
      go : (b : Bool) → total row_size (one_bit (values (β x)) ∷ chosen (λ v. v) (values (β x)) 0 x ∷ [] if b else []) ≤ 4 * length (bits (values (β x)) if b else []) + 6
      go true = simp lengths (omega arith)
      go false = omega arith

  new_bits-few : length (new_bits β e x) ≤ length (values (β x))
  unfolding new_bits
  new_bits-few = go (eqb (first_of e x) 0)
    where
      go : (b : Bool) → length (bits (values (β x)) if b else []) ≤ length (values (β x))
      go true = simp lengths (omega arith)
      go false = omega arith

  left_out-size : (t : ℤ → Bool) → total row_size (left_out β e t x) ≤ 2 + 2 * length (keep (λ v. not (t v)) (values (β x)))
  unfolding left_out kept
  left_out-size t = go (all t (values (β x)))
    where
      go : (b : Bool) → total row_size ([] if b else sum=0 (kept β e one (λ v. not (t v)) x) +0 ∷ []) ≤ 2 + 2 * length (keep (λ v. not (t v)) (values (β x)))
      go true = omega arith
      go false = simp lengths (omega arith)

  kept-length : (w : ℤ → ℤ) (t : ℤ → Bool) → length (kept β e w t x) ≡ length (keep t (values (β x)))
  unfolding kept
  kept-length w t = length-map (keep t (values (β x))) _

bit_products-size : (f : ℤ → ℕ) (b : ℤ → Ref) (ls : List ℤ) (k : ℕ) → total row_size (bit_products f b ls k) ≡ 4 * length ls
unfolding bit_products
bit_products-size f b [] k = omega arith
bit_products-size f b (l ∷ ls) k = omega (arith, bit_products-size f b ls (suc k))

-- at most 112 words, 8 more for each word of its constraint and 40 for each of its auxiliaries, and never more than 2,800
abbrev SmallBlock : Builtin → Block → Type 0
SmallBlock b B =
    let n = 2 * length B.auxiliaries + total row_size B.rows in
    (n ≤ 8 * (1 + builtin_words b) + 40 * length B.auxiliaries + 112) × (n ≤ 2800)

shared-small : (β : ℕ → Bounds) (e : Encoded) (s : ℕ → Bool) {ch : Choice} {b : Builtin} → View ch b → shares s ch ≡ true → Narrow β ch → SmallBlock b (shared_rule β e ch)
unfolding builtin_words shared_rule encodes kept_sum chosen
shared-small β e s (is-element i ns c) h w =
    let t = within (+1 to pos (length ns)) in
    simp (lengths, kept-length) (omega (arith, new_rows-size β e i, new_bits-few β e i, left_out-size β e i t, keep-both t (values (β i)), values_length (β i), w i (inl refl)))
shared-small β e s (is_var_element i xs c) h w =
    let t = within (+1 to pos (length xs)) in
    simp (lengths, bit_products-size) (omega (arith, new_rows-size β e i, new_bits-few β e i, left_out-size β e i t, keep-both t (values (β i)), values_length (β i), w i (inl refl)))
shared-small β e s (is_set x S) h w =
    let t : ℤ → Bool = λ v. member v S in
    simp lengths (omega (arith, new_rows-size β e x, new_bits-few β e x, left_out-size β e x t, keep-both t (values (β x)), values_length (β x), w x (inl refl)))
shared-small β e s (is_set_reif x S r) h w =
    let t : ℤ → Bool = λ v. member v S in
    simp (lengths, kept-length) (omega (arith, new_rows-size β e x, new_bits-few β e x, keep-both t (values (β x)), values_length (β x), w x (inl refl)))
shared-small β e s (other b) h w = not-shared s h

pub length-block_words : (first : ℕ) (β : ℕ → Bounds) (s : ℕ → Bool) (e : Encoded) (c : Constraint) → too_wide β s c ≡ false →
    let n = length (block_words first (block_of β s e c)) in
    (n ≤ 8 * (1 + builtin_words (builtin c)) + 40 * length (block_of β s e c).auxiliaries + 112) × (n ≤ 2800)
unfolding block_of rule_after
length-block_words first β s e c n = rw (block-length first (block_of β s e c)) (go (shares s (choice c)) refl)
  where
    b : Builtin
    b = builtin c

    go : (t : Bool) → shares s (choice c) ≡ t → SmallBlock b (shared_rule β e (choice c) if t else rule β b)
    go true h = shared-small β e s (view c) h (narrow β s c n h)
    go false h = omega (arith, (laws β b).small (sized β s c n))

pub block-short : (first : ℕ) (β : ℕ → Bounds) (s : ℕ → Bool) (e : Encoded) (c : Constraint) → too_wide β s c ≡ false → length (block_words first (block_of β s e c)) ≤ 2800
block-short first β s e c n = (length-block_words first β s e c n).1
