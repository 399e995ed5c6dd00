-- Lines at the places of a row: to those passed the square is added, and to those that the row has no bit of nothing is to be added.
use Rattle.std.proofs.Common.{◌≡◌, refl, sym, ap, subst, ◌∙◌, List, [], ℕ, ◌+◌, ◌*◌, ◌-◌, ◌<◌, ◌≤◌, arith, ℤ, length, get_or}
use native.Mathlib.Decide.{ℕ_discrete}
use borrow.Rule.Slice.PartMut.{put_mid}
use Rattle.integers.specs.Number.{◌⊕◌, +0}
use Rattle.integers.proofs.Sums.{plus-zero, second-zero}
use Rattle.bitforms.specs.SumOver.{sum_over}
use Rattle.bitforms.specs.BitRow.{BitRow}
use Rattle.bitforms.specs.Matrix.{square_entry, row_entry}
use Rattle.bitlines.specs.Line.{square_at}
use Rattle.bitlines.proofs.Line.{square-entry}
use Rattle.bitplaces.specs.Places.{NotAt, PlacesFrom}
use Rattle.bitplaces.specs.SquareAdded.{SquareAdded}
use Rattle.bitfilling.specs.Filled.{dense}
use Rattle.bitfilling.specs.Added.{FilledBy, Added}
use Rattle.bitfilling.proofs.Filling.{dense-at}
use Rattle.bitfilling.proofs.Idle.{zero-with}
use Rattle.bitwriting.specs.Bands.{line_at, EachLine}
use Rattle.bitwriting.proofs.Band.{put-length, put-here, put-there}

pub record Squaring (P : ℕ → List ℤ → List ℤ → Type 0) (n i h : ℕ) (places : List ℕ) (k : ℕ) (whole band : List ℤ) (x : ℕ) : Type 0 where
  pub same : length band ≡ length whole
  pub passed : (q : ℕ) → q < h → NotAt places x k (i + q) → P q (line_at n q whole) (line_at n q band)
  pub left : (q z : ℕ) → x ≤ z → z < k → get_or places z 0 ≡ i + q → line_at n q band ≡ line_at n q whole

-- a row without the bit adds nothing to its line
none-square : (row line : List ℤ) (c : ℤ) (i : ℕ) → get_or row i +0 ≡ +0 → SquareAdded row c i line line
unfolding square_at
none-square row line c i e = record {
  same = refl;
  entries = λ j a b. sym (second-zero (get_or line j +0) _ _ refl (zero-with (λ m. get_or row m +0) c i j e));
  small = omega arith;
}

pub squaring_begun : {row : List ℤ} {i : ℕ} {places : List ℕ} {k : ℕ} (h : ℕ) (c : ℤ) (whole : List ℤ) → PlacesFrom row i places 0 k → i + h ≤ length row →
    Squaring (λ q. SquareAdded row c (i + q)) (length row) i h places k whole whole 0
squaring_begun {row} {i} h c whole s l = record {
  same = refl;
  passed = λ q a n. none-square row (line_at (length row) q whole) c (i + q) (s.zeros (i + q) (omega arith) (omega arith) n);
  left = λ q z a b e. refl;
}

module _ {P : ℕ → List ℤ → List ℤ → Type 0} {row : List ℤ} {n i h : ℕ} {places : List ℕ} {k : ℕ} {whole band : List ℤ} {x : ℕ} (s : Squaring P n i h places k whole band x) (r : PlacesFrom row i places 0 k) (a : x < k) where
  abbrev p : ℕ
  p = get_or places x 0

  one-more : (j : ℕ) → NotAt places (x + 1) k j → (p ≡ j → ⊥) → NotAt places x k j
  one-more j n f z l m e = go (ℕ_discrete z x)
    where
      go : Dec (z ≡ x) → ⊥
      go (yes g) = f (sym (ap (λ w. get_or places w 0) g) ∙ e)
      go (no g) = n z (omega arith) m e

  -- to its line the square is added
  pub squaring_one : {ys : List ℤ} → p < i + h → (p - i) * n + n ≤ length whole → length ys ≡ n → P (p - i) (line_at n (p - i) whole) ys →
      Squaring P n i h places k whole (put_mid ((p - i) * n) ((p - i) * n + n - (p - i) * n) band ys) (x + 1)
  squaring_one {ys} b l size added =
      let f : (p - i) * n + n ≤ length band = omega (arith, l, s.same) in
      record {
        same = put-length n (p - i) band ys f size ∙ s.same;
        passed = λ q v m. go q v m (ℕ_discrete q (p - i));
        left = λ q z u v e. put-there n (p - i) band ys f size q (λ g. omega (arith, g, e, r.inside x (omega arith) a, r.rising x z (omega arith) (omega arith) v)) ∙ s.left q z (omega arith) v e;
      }
    where
      go : (q : ℕ) → q < h → NotAt places (x + 1) k (i + q) → Dec (q ≡ p - i) → P q (line_at n q whole) (line_at n q (put_mid ((p - i) * n) ((p - i) * n + n - (p - i) * n) band ys))
      go q v m (yes e) =
          let f : (p - i) * n + n ≤ length band = omega (arith, l, s.same) in
          subst (λ w. P w (line_at n w whole) (line_at n w (put_mid ((p - i) * n) ((p - i) * n + n - (p - i) * n) band ys))) (sym e)
          (subst (λ y. P (p - i) (line_at n (p - i) whole) y) (sym (put-here n (p - i) band ys f size)) added)
      go q v m (no g) =
          let f : (p - i) * n + n ≤ length band = omega (arith, l, s.same) in
          subst (λ y. P q (line_at n q whole) y) (sym (put-there n (p - i) band ys f size q g))
          (s.passed q v (one-more (i + q) m (λ e. g (omega (arith, e)))))

  -- the bit is behind the lines
  pub squaring_none : i + h ≤ p → Squaring P n i h places k whole band (x + 1)
  squaring_none b = record {
    same = s.same;
    passed = λ q v m. s.passed q v (one-more (i + q) m (λ e. omega (arith, e, b)));
    left = λ q z u v e. s.left q z (omega arith) v e;
  }

pub squaring_done : {P : ℕ → List ℤ → List ℤ → Type 0} {n i h : ℕ} {places : List ℕ} {k : ℕ} {whole band : List ℤ} {x : ℕ} → k ≤ x → Squaring P n i h places k whole band x → EachLine P n h whole band
squaring_done l s = record { same = s.same; lines = λ q v. s.passed q v (λ z a b e. omega arith) }

-- the entry of a square is that of the row
pub square_is : (r : BitRow) {row : List ℤ} {c : ℤ} {i n : ℕ} → length row ≡ n → i < n → FilledBy r row c → (j : ℕ) → j < n → square_at row c i j ≡ square_entry r.whole i j
square_is r {row} {c} {i} {n} k v f j a = rw f.constant_is (square-entry row r.whole i j (number i v ∙ dense-at n r.whole.terms i v) (number j a ∙ dense-at n r.whole.terms j a))
  where
    number : (j : ℕ) → j < n → get_or row j +0 ≡ get_or (dense n r.whole.terms) j +0
    number j a = ap (λ xs. get_or xs j +0) (f.terms_are ∙ ap (λ m. dense m r.whole.terms) k)

-- of a row without products that is all
pub square-is-added : (r : BitRow) {row line line' : List ℤ} {c : ℤ} {i n : ℕ} → length row ≡ n → length line ≡ n → i < n → FilledBy r row c → r.pairs ≡ [] → SquareAdded row c i line line' → Added r i line line'
unfolding sum_over
square-is-added r {row} {line} {line'} {c} {i} {n} k l v f e s = record {
  same = s.same;
  entries = λ j a b. s.entries j a b ∙ ap (λ w. get_or line j +0 ⊕ w) (square_is r k v f j (omega (arith, b, l)) ∙ sym (plus-zero (square_entry r.whole i j)) ∙ none j);
  small = omega (arith, s.small);
}
  where
    none : (j : ℕ) → square_entry r.whole i j ⊕ +0 ≡ row_entry r i j
    none j = rw e refl
