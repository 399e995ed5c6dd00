-- What a row over bits adds to a line: its square's entries, then those of its products of bits.
use Rattle.integers.specs.declared.Bounds.{Bounds}
use Rattle.std.proofs.Common.{◌≡◌, refl, sym, ap, subst, ◌∙◌, true, List, [], ◌∷◌, ℕ, zero, suc, ◌+◌, ◌-◌, ◌*◌, ◌≤◌, arith, ℤ, pos, nat_abs, length, get_or}
use mathlib.Core.List.{flat_map}
use lib.Signed.{le_z}
use Rattle.integers.specs.Number.{abs_z, +0}
use Rattle.integers.specs.Lists.{list_of, all}
use Rattle.integers.specs.Terms.{Term, ◌·◌}
use Rattle.integers.proofs.Sums.{plus-zero}
use Rattle.integers.proofs.Tests.{says-and}
use Rattle.words.specs.Limit as Limit
use Rattle.rowsystems.specs.Row.{product}
use Rattle.rowsystems.specs.RowSystem.{variable_at}
use Rattle.integers.specs.Bounds.{bounds_in}
use Rattle.bitforms.specs.Weights.{weights}
use Rattle.bitforms.specs.BitRow.{BitRow, bit_row}
use Rattle.bitforms.specs.FormAnswer.{row_fits}
use Rattle.bitlines.specs.Sizes as Size
use Rattle.bitlines.specs.Dense.{bump, add_terms, peak, Adds}
use Rattle.bitlines.specs.Line.{square_at, square_terms, pair_terms}
use Rattle.bitlines.proofs.Dense.{add-length}
use Rattle.bitlines.proofs.Line.{row_line}
use Rattle.bittables.specs.BitTables.{span_in, bits_of, encoding_by, BitCounts}
use Rattle.bitrows.proofs.Pairs.{pairs_grid}
use Rattle.bitfilling.specs.Filled.{dense}
use Rattle.bitfilling.specs.Added.{whole_terms, FilledBy, product_pairs, Added}
use Rattle.bitfilling.proofs.Idle.{zero-with}
use Rattle.bitfilling.proofs.Filling.{dense-at, limit_size, all_within_peak, row_fits-dense}

-- a row that fits has no number beyond 16,384
pub fits-sizes : (n : ℕ) (r : BitRow) → row_fits n r ≡ true → (nat_abs r.whole.constant ≤ Limit.bit_numbers) × (peak (dense n r.whole.terms) ≤ Limit.bit_numbers)
fits-sizes n r h =
    let b = (says-and {A = le_z (abs_z r.whole.constant) (pos Limit.bit_numbers) ≡ true} {B = all (λ v. le_z (abs_z v) (pos Limit.bit_numbers)) (dense n r.whole.terms) ≡ true} (λ p. p, λ p. p) (λ p. p, λ p. p)).0 (sym (row_fits-dense n r) ∙ h) in
    (limit_size r.whole.constant b.0, all_within_peak (dense n r.whole.terms) b.1)

-- a row over bits as a list, and its constant, are as small; and they give its square
pub filled-sizes : (n : ℕ) (r : BitRow) (row : List ℤ) (c : ℤ) → length row ≡ n → row_fits n r ≡ true → FilledBy r row c → (peak row ≤ Limit.bit_numbers) × (nat_abs c ≤ Limit.bit_numbers)
filled-sizes n r row c e h f =
    let s = fits-sizes n r h in
    (subst (λ xs. peak xs ≤ Limit.bit_numbers) (sym (f.terms_are ∙ ap (λ k. dense k r.whole.terms) e)) s.1, rw f.constant_is s.0)

pub filled-square : (n : ℕ) (r : BitRow) (row line : List ℤ) (c : ℤ) (i m : ℕ) {after : List ℤ} → length row ≡ n → FilledBy r row c →
    Adds (square_terms row c i m) (m * Size.largest_entry) line after → Adds (whole_terms n r i m) (m * Size.largest_entry) line after
filled-square n r row line c i m {after} e f a =
    subst (λ z. Adds (square_terms (dense n r.whole.terms) z i m) (m * Size.largest_entry) line after) f.constant_is
    (subst (λ xs. Adds (square_terms xs c i m) (m * Size.largest_entry) line after) (f.terms_are ∙ ap (λ k. dense k r.whole.terms) e) a)

-- the square of a row without the bit adds nothing to its line
bump-none : (xs : List ℤ) (j : ℕ) → bump xs j +0 ≡ xs
unfolding bump
bump-none [] j = refl
bump-none (x ∷ xs) zero = ap (λ y. y ∷ xs) (plus-zero x)
bump-none (x ∷ xs) (suc j) = ap (λ ys. x ∷ ys) (bump-none xs j)

none-terms : (f : ℕ → Term ℕ) (m : ℕ) → ((d : ℕ) → (f d).coefficient ≡ +0) → (xs : List ℤ) → add_terms xs (list_of f m) ≡ xs
unfolding add_terms list_of
none-terms f zero h xs = refl
none-terms f (suc m) h xs = rw (h 0, bump-none xs (f 0).variable) (none-terms (λ d. f (suc d)) m (λ d. h (suc d)) xs)

pub none-square : (row line : List ℤ) (c : ℤ) (i m : ℕ) → get_or row i +0 ≡ +0 → Adds (square_terms row c i m) (m * Size.largest_entry) line line
unfolding square_terms square_at
none-square row line c i m h = record {
  sum = sym (none-terms (λ d. square_at row c i (i + d) · (i + d)) m (λ d. zero-with (λ k. get_or row k +0) c i (i + d) h) line);
  small = omega arith;
}

-- the square, and the products of bits
pub row-added : (line : List ℤ) (r : BitRow) (i m : ℕ) {after : List ℤ} → i + m ≡ length line →
    after ≡ add_terms (add_terms line (whole_terms (length line) r i m)) (flat_map (λ p. pair_terms p i) r.pairs) →
    peak after ≤ peak line + Size.largest_row → Added r i line after
row-added line r i m {after} k e p =
    let d : m ≡ length line - i = omega arith in
    let s = whole_terms (length line) r i m in
    record {
      same = ap length e ∙ add-length (add_terms line s) (flat_map (λ q. pair_terms q i) r.pairs) ∙ add-length line s;
      entries = λ j h l. ap (λ xs. get_or xs j +0) e ∙ rw d (row_line line (dense (length line) r.whole.terms) r.whole r.pairs i j (length line) h l (omega arith) (dense-at (length line) r.whole.terms i (omega arith)) (dense-at (length line) r.whole.terms j l));
      small = p;
    }

-- no products of bits
pub square-added : (line : List ℤ) (r : BitRow) (i m : ℕ) {after : List ℤ} → i + m ≡ length line → i + m ≤ Limit.bits → r.pairs ≡ [] →
    Adds (whole_terms (length line) r i m) (m * Size.largest_entry) line after → Added r i line after
unfolding add_terms flat_map
square-added line r i m k h n e = row-added line r i m k (e.sum ∙ rw n refl) (omega (arith, e.small))

-- those of a product
pub product-pairs : (Ds : List Bounds) (firsts counts args : List ℕ) (first i : ℕ) → BitCounts Ds counts →
    product_pairs firsts counts args first i
    ≡ flat_map (λ p. pair_terms p i) (bit_row (bounds_in Ds) (encoding_by Ds firsts) first (product (variable_at args 0) (variable_at args 1) (variable_at args 2))).pairs
unfolding product_pairs bit_row bits_of
product-pairs Ds firsts counts args first i k =
    rw (k (variable_at args 1), k (variable_at args 2)) (sym (pairs_grid (get_or firsts (variable_at args 1) 0) (get_or firsts (variable_at args 2) 0) first i (weights (span_in Ds (variable_at args 1))) (weights (span_in Ds (variable_at args 2)))))
