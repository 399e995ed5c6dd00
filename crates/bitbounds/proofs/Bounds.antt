-- Bounds on the entries of rows, row after row.
use Rattle.integers.specs.declared.Bounds.{Bounds}
use Rattle.std.proofs.Common.{◌≡◌, refl, sym, ap, ◌∙◌, Bool, true, false, ◌&&◌, List, [], ◌∷◌, ℕ, suc, ◌+◌, ◌*◌, ◌≤◌, ◌<◌, min, max, add-mul, arith, eqb, ℤ, pos, negsuc, nat_abs, length, get_or, rules}
use Rattle.std.specs.Prelude.{unsigned_abs}
use Rattle.std.specs.Ordering.{ord_max, nat_cmp}
use Rattle.integers.specs.Choice.{◌if◌else◌}
use Rattle.integers.specs.Number.{◌⊕◌, ◌⊗◌, +0, +1, +2, -2}
use Rattle.integers.specs.Lists.{all}
use Rattle.integers.proofs.Fits.{plus-size, times-size, mul-le}
use Rattle.integers.proofs.Booleans.{both_true}
use Rattle.rowsystems.specs.OneWord.{starts_row}
use Rattle.rowsystems.specs.Row.{Row, sum≤0, sum=0, product}
use Rattle.bitforms.specs.SumOver.{sum_over}
use Rattle.bitforms.specs.BitRow.{Pair, BitRow, bit_row}
use Rattle.bitforms.specs.Matrix.{coefficient_of, square_with, square_entry, on_pair, pair_entry, row_entry, entry_of}
use Rattle.bitforms.specs.FormAnswer.{row_fits}
use Rattle.bitlines.specs.Sizes as Size
use Rattle.bitlines.specs.Dense.{peak}
use Rattle.bitlines.proofs.Dense.{peak-at}
use Rattle.bittables.specs.BitTables.{row_over, rows_by}
use Rattle.bitfilling.specs.Filled.{dense}
use Rattle.bitfilling.proofs.Filling.{dense-at}
use Rattle.bitfilling.proofs.Walk.{rows_left, next_row, left-none, left_one, left_end}
use Rattle.bitbounds.specs.Within.{largest_bound, RowWithin, EntriesWithin}

-- ---- the largest absolute value

-- the larger of two, as the library's `max` says it
pub larger_is : (a b : ℕ) → ord_max nat_cmp a b ≡ max a b
larger_is a b = search rules

pub size-is : (v : ℤ) → unsigned_abs v ≡ nat_abs v
size-is (pos n) = refl
size-is (negsuc n) = refl

pub peak-below : (xs : List ℤ) (m : ℕ) → ((k : ℕ) → k < length xs → nat_abs (get_or xs k +0) ≤ m) → peak xs ≤ m
unfolding peak
peak-below [] m h = omega arith
peak-below (x ∷ xs) m h = omega (arith, h 0 (omega arith), peak-below xs m (λ k l. h (suc k) (omega arith)))

-- ---- one row

-- twice a product of numbers up to s; entries of a square of such numbers
twice-within : (x y : ℤ) (s : ℕ) → nat_abs x ≤ s → nat_abs y ≤ s → nat_abs (+2 ⊗ x ⊗ y) ≤ 2 * (s * s)
twice-within x y s p q =
    let d : nat_abs (+2 ⊗ x) ≤ s + s = omega (arith, times-size +2 x) in
    omega (arith, times-size (+2 ⊗ x) y, mul-le d q, add-mul s s s)

square-within : (k : ℕ → ℤ) (c : ℤ) (s i j : ℕ) → nat_abs c ≤ s → nat_abs (k i) ≤ s → nat_abs (k j) ≤ s → nat_abs (square_with k c i j) ≤ 3 * (s * s)
square-within k c s i j a b d = go (eqb i j)
  where
    go : (t : Bool) → nat_abs (k i ⊗ k i ⊕ +2 ⊗ c ⊗ k i if t else +2 ⊗ k i ⊗ k j) ≤ 3 * (s * s)
    go true = omega (arith, plus-size (k i ⊗ k i) (+2 ⊗ c ⊗ k i), times-size (k i) (k i), mul-le b b, twice-within c (k i) s a b)
    go false = omega (arith, twice-within (k i) (k j) s b d)

on-within : (c : ℤ) (a b i j : ℕ) → nat_abs (on_pair c a b i j) ≤ nat_abs c
unfolding on_pair
on-within c a b i j = go (eqb (min a b) i && eqb (max a b) j)
  where
    go : (t : Bool) → nat_abs (c if t else +0) ≤ nat_abs c
    go true = omega arith
    go false = omega arith

pair-within : (p : Pair) (i j : ℕ) → nat_abs (pair_entry p i j) ≤ 8
unfolding pair_entry
pair-within p i j =
    let a = on_pair (pos 3) p.t p.t i j in
    let b = on_pair +1 p.u p.v i j in
    let c = on_pair -2 p.u p.t i j in
    let d = on_pair -2 p.v p.t i j in
    omega (
      arith,
      plus-size (a ⊕ b ⊕ c) d,
      plus-size (a ⊕ b) c,
      plus-size a b,
      on-within (pos 3) p.t p.t i j,
      on-within +1 p.u p.v i j,
      on-within -2 p.u p.t i j,
      on-within -2 p.v p.t i j,
    )

pairs-within : (ps : List Pair) (i j : ℕ) → nat_abs (sum_over (λ p. pair_entry p i j) ps) ≤ 8 * length ps
unfolding sum_over
pairs-within [] i j = omega arith
pairs-within (p ∷ ps) i j = omega (arith, plus-size (pair_entry p i j) (sum_over (λ q. pair_entry q i j) ps), pair-within p i j, pairs-within ps i j)

-- a row has no more products of bits than bits of its own
pub pairs-few : (Ds : List Bounds) (firsts : List ℕ) (first : ℕ) (q : Row ℕ) → length (row_over Ds firsts first q).pairs ≤ (row_over Ds firsts first q).own
unfolding bit_row
pairs-few Ds firsts first (sum≤0 ts c) = omega arith
pairs-few Ds firsts first (sum=0 ts c) = omega arith
pairs-few Ds firsts first (product r f g) = omega arith

pub row-within : (n : ℕ) (r : BitRow) (s own : ℕ) → nat_abs r.whole.constant ≤ s → peak (dense n r.whole.terms) ≤ s → length r.pairs ≤ own → RowWithin n r (3 * (s * s) + 8 * own)
unfolding square_entry
row-within n r s own c p l i j h k =
    let a = size i h in
    let b = size j k in
    omega (
      arith,
      plus-size (square_with (coefficient_of r.whole.terms) r.whole.constant i j) (sum_over (λ q. pair_entry q i j) r.pairs),
      square-within (coefficient_of r.whole.terms) r.whole.constant s i j c a b,
      pairs-within r.pairs i j,
      l,
    )
  where
    size : (m : ℕ) → m < n → nat_abs (coefficient_of r.whole.terms m) ≤ s
    size m e = rw (dense-at n r.whole.terms m e) at (bound m)
      where
        bound : (m : ℕ) → nat_abs (get_or (dense n r.whole.terms) m +0) ≤ s
        bound m = omega (arith, peak-at (dense n r.whole.terms) m, p)

-- ---- all rows

pub record Bounding (ws : List ℕ) (Ds : List Bounds) (firsts : List ℕ) (start n : ℕ) (row : List ℤ) (most first at : ℕ) : Type 0 where
  pub place : at ≤ length ws
  pub near : first ≤ start + Size.own_bits * at
  pub small : most ≤ largest_bound * at
  pub long : length row ≡ n
  pub fits : all (row_fits n) (rows_left Ds firsts ws first at) ≡ true
  pub within : (b : ℕ) → EntriesWithin n (rows_left Ds firsts ws first at) b → EntriesWithin n (rows_by Ds firsts start ws) (most + b)

pub bounding-begun : (ws : List ℕ) (Ds : List Bounds) (firsts : List ℕ) (start : ℕ) (row : List ℤ) → all (row_fits (length row)) (rows_by Ds firsts start ws) ≡ true →
    Bounding ws Ds firsts start (length row) row 0 start 0
bounding-begun ws Ds firsts start row f = record {
  place = omega arith;
  near = omega arith;
  small = omega arith;
  long = refl;
  fits = f;
  within = λ b w i j h k. omega (arith, w i j h k);
}

module _ {ws : List ℕ} {Ds : List Bounds} {firsts : List ℕ} {start n : ℕ} {row : List ℤ} {most first at : ℕ} (s : Bounding ws Ds firsts start n row most first at) where
  pub bounding-none : at < length ws → starts_row (get_or ws at 0) ≡ false → Bounding ws Ds firsts start n row most first (at + 1)
  bounding-none h z =
      let o = left-none Ds firsts ws first at h z in
      record {
        place = omega arith;
        near = omega (arith, s.near);
        small = omega (arith, s.small);
        long = s.long;
        fits = sym (ap (all (row_fits n)) o) ∙ s.fits;
        within = λ b w. s.within b (rw o w);
      }

  module _ (h : at < length ws) (z : starts_row (get_or ws at 0) ≡ true) where
    abbrev this : BitRow
    this = next_row Ds firsts ws first at

    abbrev others : List BitRow
    others = rows_left Ds firsts ws (first + this.own) (at + 1)

    both-fit : (row_fits n this ≡ true) × (all (row_fits n) others ≡ true)
    unfolding all
    both-fit = both_true (row_fits n this) (all (row_fits n) others) (sym (ap (all (row_fits n)) (left_one Ds firsts ws first at h z)) ∙ s.fits)

    pub bounding-fits : row_fits n this ≡ true
    bounding-fits = both-fit.0

    pub bounding-one : {own b : ℕ} {after : List ℤ} → RowWithin n this b × (b ≤ largest_bound) → own ≡ this.own → own ≤ Size.own_bits → length after ≡ length row →
        Bounding ws Ds firsts start n after (most + b) (first + own) (at + 1)
    unfolding entry_of sum_over
    bounding-one {own} {b} {after} r o l g = record {
      place = omega arith;
      near = omega (arith, s.near, l);
      small = omega (arith, s.small, r);
      long = g ∙ s.long;
      fits = rw o both-fit.1;
      within = λ d w i j u v.
          let w' : EntriesWithin n others d = rw o at w in
          let e : most + (b + d) ≡ most + b + d = omega arith in
          rw e at (s.within (b + d) (rw (left_one Ds firsts ws first at h z) (λ i j u v. omega (arith, plus-size (row_entry this i j) (entry_of others i j), r.0 i j u v, w' i j u v))) i j u v);
    }

  pub bounding-done : length ws ≤ at → EntriesWithin n (rows_by Ds firsts start ws) most
  unfolding entry_of sum_over
  bounding-done h =
      let e : most + 0 ≡ most = omega arith in
      rw e at (s.within 0 (rw (left_end Ds firsts ws first at h) (λ i j u v. omega arith)))
