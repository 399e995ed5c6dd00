-- A row over bits as a list: its numbers are the coefficients of the definition, and a row that fits has none beyond 16,384.
use Rattle.integers.specs.declared.Bounds.{Bounds}
use Rattle.std.proofs.Common.{◌≡◌, refl, sym, ap, ap₂, ◌∙◌, true, ◌&&◌, List, [], ◌∷◌, ◌++◌, map, ℕ, zero, suc, ◌+◌, ◌<◌, ◌≤◌, arith, ℤ, pos, nat_abs, length, get_or, set, replicate, length-set, get_or-set_same, get_or-set_other, ext_get_or}
use native.Mathlib.Decide.{ℕ_discrete}
use lib.ListN.{length-replicate, get_or-replicate}
use lib.Signed.{le_z}
use Rattle.integers.specs.Number.{◌⊕◌, neg, abs_z, count, +0, +1}
use Rattle.integers.specs.Lists.{list_of, all}
use Rattle.integers.specs.Terms.{Term, ◌·◌}
use Rattle.integers.proofs.Linear.{linear, ◌⊑◌}
use Rattle.integers.proofs.Lists.{list_of-length}
use Rattle.integers.proofs.Tests.{says-le, says-and}
use Rattle.integers.proofs.Places.{get_or-list_of, map-list_of, all_map}
use Rattle.integers.proofs.Sums.{zero-plus, one-times}
use Rattle.words.specs.Limit as Limit
use Rattle.rowsystems.specs.Row.{sum≤0, sum=0, product}
use Rattle.integers.specs.Bounds.{bounds_in}
use Rattle.bitforms.specs.Weights.{weights}
use Rattle.bitforms.specs.OverBits.{scaled, over_bits, weighted_bits}
use Rattle.bitforms.specs.BitRow.{BitRow, least, slack_weights, product_whole, bit_row}
use Rattle.bitforms.specs.Matrix.{coefficient_of}
use Rattle.bitforms.specs.FormAnswer.{row_fits}
use Rattle.bitlines.specs.Dense.{add_terms, peak}
use Rattle.bitlines.proofs.Dense.{add-append, add-length, add-coefficient}
use Rattle.bittables.specs.BitTables.{span_in, bits_of, encoding_by}
use Rattle.bitrows.specs.Terms.{cross}
use Rattle.bitrows.proofs.Over.{over-bits}
use Rattle.bitrows.proofs.Cross.{pairs-cross}
use Rattle.bitfilling.specs.Filled.{dense}

-- ---- zeros

-- the numbers before place i are 0
pub record Cleared (first row : List ℤ) (i : ℕ) : Type 0 where
  pub same : length row ≡ length first
  pub zeros : (j : ℕ) → j < i → get_or row j +0 ≡ +0
  pub place : i ≤ length first

pub cleared_begun : (first : List ℤ) → Cleared first first 0
cleared_begun first = record { same = refl; zeros = λ j h. absurd (omega arith); place = omega arith }

pub cleared_more : {first row : List ℤ} {i : ℕ} → i < length row → Cleared first row i → Cleared first (set row i +0) (i + 1)
cleared_more {first} {row} {i} h s = record {
  same = length-set row i +0 ∙ s.same;
  zeros = λ j l. go j l (ℕ_discrete j i);
  place = omega (arith, s.same);
}
  where
    go : (j : ℕ) → j < i + 1 → Dec (j ≡ i) → get_or (set row i +0) j +0 ≡ +0
    go j l (yes e) = rw e (get_or-set_same row i +0 +0 h)
    go j l (no n) = get_or-set_other row i j +0 +0 (λ e. n e) ∙ s.zeros j (omega arith)

pub cleared_done : {first row : List ℤ} {i : ℕ} → length row ≤ i → Cleared first row i → row ≡ replicate (length first) +0
cleared_done {first} {row} {i} h s =
    ext_get_or +0 row (replicate (length first) +0) (s.same ∙ sym (length-replicate (length first) +0))
    (λ j l. s.zeros j (omega arith) ∙ sym (get_or-replicate (length first) j +0 +0 (omega (arith, s.same))))

pub zeros-peak : (n : ℕ) → peak (replicate n +0) ≡ 0
unfolding peak
zeros-peak zero = refl
zeros-peak (suc n) = omega (arith, zeros-peak n)

-- ---- the list

pub dense-length : (n : ℕ) (ts : List (Term ℕ)) → length (dense n ts) ≡ n
unfolding dense
dense-length n ts = add-length (replicate n +0) ts ∙ length-replicate n +0

pub dense-at : (n : ℕ) (ts : List (Term ℕ)) (i : ℕ) → i < n → get_or (dense n ts) i +0 ≡ coefficient_of ts i
unfolding dense
dense-at n ts i h =
    let l = length-replicate n +0 in
    add-coefficient (replicate n +0) ts i (omega arith) ∙ ap (λ a. a ⊕ coefficient_of ts i) (get_or-replicate n i +0 +0 h) ∙ zero-plus (coefficient_of ts i)

pub dense-is : (n : ℕ) (ts : List (Term ℕ)) → dense n ts ≡ map (coefficient_of ts) (list_of (λ i. i) n)
dense-is n ts =
    let l = dense-length n ts in
    ext_get_or +0 (dense n ts) (list_of (coefficient_of ts) n) (l ∙ sym (list_of-length (coefficient_of ts) n)) (λ i h. dense-at n ts i (omega arith) ∙ sym (get_or-list_of (coefficient_of ts) n i +0 (omega arith)))
    ∙ sym (map-list_of (coefficient_of ts) (λ i. i) n)

-- ---- what fits

pub limit_size : (x : ℤ) → le_z (abs_z x) (pos Limit.bit_numbers) ≡ true → nat_abs x ≤ Limit.bit_numbers
limit_size x h = size x ((says-le (abs_z x) (pos Limit.bit_numbers)).0 h)
  where
    size : (x : ℤ) → abs_z x ⊑ pos 16384 → nat_abs x ≤ Limit.bit_numbers
    size = simp linear (omega arith)

pub all_within_peak : (xs : List ℤ) → all (λ v. le_z (abs_z v) (pos Limit.bit_numbers)) xs ≡ true → peak xs ≤ Limit.bit_numbers
unfolding all peak
all_within_peak [] h = omega arith
all_within_peak (x ∷ xs) h =
    let b = (says-and {A = le_z (abs_z x) (pos Limit.bit_numbers) ≡ true} {B = all (λ v. le_z (abs_z v) (pos Limit.bit_numbers)) xs ≡ true} (λ p. p, λ p. p) (λ p. p, λ p. p)).0 h in
    omega (arith, limit_size x b.0, all_within_peak xs b.1)

pub row_fits-dense : (n : ℕ) (r : BitRow) → row_fits n r ≡ (le_z (abs_z r.whole.constant) (pos Limit.bit_numbers) && all (λ v. le_z (abs_z v) (pos Limit.bit_numbers)) (dense n r.whole.terms))
unfolding row_fits
row_fits-dense n r = ap (λ b. le_z (abs_z r.whole.constant) (pos Limit.bit_numbers) && b) (sym (ap (all (λ v. le_z (abs_z v) (pos Limit.bit_numbers))) (dense-is n r.whole.terms) ∙ all_map (λ v. le_z (abs_z v) (pos Limit.bit_numbers)) (coefficient_of r.whole.terms) (list_of (λ i. i) n)))

-- ---- the terms of a product

scaled-one : (ts : List (Term ℕ)) → scaled +1 ts ≡ ts
unfolding scaled
scaled-one [] = refl
scaled-one (t ∷ ts) = ap₂ (λ k l. k · t.variable ∷ l) (one-times t.coefficient) (scaled-one ts)

pub product-added : (xs : List ℤ) (Ds : List Bounds) (firsts : List ℕ) (first r f g : ℕ) →
    add_terms (add_terms (add_terms (add_terms xs (scaled +1 (bits_of Ds firsts r))) (scaled (neg ((bounds_in Ds f).lower)) (bits_of Ds firsts g))) (scaled (neg ((bounds_in Ds g).lower)) (bits_of Ds firsts f)))
    (cross first (weights (span_in Ds f)) (weights (span_in Ds g)))
    ≡ add_terms xs (bit_row (bounds_in Ds) (encoding_by Ds firsts) first (product r f g)).whole.terms
unfolding bit_row product_whole bits_of
product-added xs Ds firsts first r f g =
    let a = scaled (neg ((bounds_in Ds f).lower)) (bits_of Ds firsts g) in
    let b = scaled (neg ((bounds_in Ds g).lower)) (bits_of Ds firsts f) in
    let m = cross first (weights (span_in Ds f)) (weights (span_in Ds g)) in
    rw (scaled-one (bits_of Ds firsts r), pairs-cross first (get_or firsts f 0) (get_or firsts g 0) (weights (span_in Ds f)) (weights (span_in Ds g)))
    (sym (add-append xs (bits_of Ds firsts r) (a ++ (b ++ m)) ∙ add-append _ a (b ++ m) ∙ add-append _ b m))

-- ---- the terms of rows

pub slacked_added : (xs : List ℤ) (Ds : List Bounds) (firsts : List ℕ) (first : ℕ) (ts : List (Term ℕ)) (c : ℤ) →
    add_terms (add_terms xs (over_bits (bits_of Ds firsts) ts)) (scaled +1 (weighted_bits first (weights (count (neg (least (bounds_in Ds) ts c))))))
    ≡ add_terms xs (bit_row (bounds_in Ds) (encoding_by Ds firsts) first (sum≤0 ts c)).whole.terms
unfolding bit_row slack_weights
slacked_added xs Ds firsts first ts c =
    let s = weighted_bits first (weights (count (neg (least (bounds_in Ds) ts c)))) in
    rw (scaled-one s, over-bits (encoding_by Ds firsts) ts c) (sym (add-append xs (over_bits (bits_of Ds firsts) ts) s))

pub equal-added : (xs : List ℤ) (Ds : List Bounds) (firsts : List ℕ) (first : ℕ) (ts : List (Term ℕ)) (c : ℤ) →
    add_terms xs (over_bits (bits_of Ds firsts) ts) ≡ add_terms xs (bit_row (bounds_in Ds) (encoding_by Ds firsts) first (sum=0 ts c)).whole.terms
unfolding bit_row
equal-added xs Ds firsts first ts c = ap (add_terms xs) (sym (over-bits (encoding_by Ds firsts) ts c))
