-- The walk over the places after bit i: to the numbers of a line at those passed something is added.
use Rattle.std.proofs.Common.{◌≡◌, refl, sym, ap, ◌∙◌, List, ℕ, ◌+◌, ◌*◌, ◌<◌, ◌≤◌, arith, ℤ, nat_abs, length, get_or, get_or-set_same, get_or-set_other, ne_eqb}
use native.Mathlib.Decide.{ℕ_discrete, dec_le}
use Rattle.integers.specs.Number.{◌⊕◌, ◌⊗◌, +0, +2}
use Rattle.integers.specs.Lists.{list_of}
use Rattle.integers.proofs.Fits.{times-size, mul-le}
use Rattle.integers.proofs.Linear.{linear}
use Rattle.integers.proofs.Sums.{second-zero}
use Rattle.words.specs.Limit as Limit
use Rattle.bitlines.specs.Sizes as Size
use Rattle.bitlines.specs.Dense.{bump, add_terms, peak}
use Rattle.bitlines.specs.Line.{square_at, square_terms}
use Rattle.bitlines.proofs.Dense.{peak-bump, bump-length}
use Rattle.bitlines.proofs.Line.{twice-size}
use Rattle.bitplaces.specs.Places.{NotAt, PlacesFrom}
use Rattle.bitplaces.specs.SquareAdded.{SquareAdded}

-- the places after one of them
pub places_after : {row : List ℤ} {from : ℕ} {places : List ℕ} {k : ℕ} → PlacesFrom row from places 0 k → (x : ℕ) → x < k → PlacesFrom row (get_or places x 0 + 1) places (x + 1) k
places_after {row} {from} {places} {k} s x h = record {
  rising = λ y z a b c. s.rising y z (omega arith) b c;
  inside = λ y a b. (omega (arith, s.rising x y (omega arith) (omega arith) b), (s.inside y (omega arith) b).1);
  zeros = λ j a b n. s.zeros j (omega (arith, s.inside x (omega arith) h)) b (λ z l m e. before j z m e a n (dec_le (x + 1) z));
}
  where
    before : (j z : ℕ) → z < k → get_or places z 0 ≡ j → get_or places x 0 + 1 ≤ j → NotAt places (x + 1) k j → Dec (x + 1 ≤ z) → ⊥
    before j z m e a n (yes l) = n z l m e
    before j z m e a n (no f) = go (ℕ_discrete z x)
      where
        go : Dec (z ≡ x) → ⊥
        go (yes q) = omega (arith, a, sym (ap (λ w. get_or places w 0) q) ∙ e)
        go (no q) = omega (arith, a, e, s.rising z x (omega arith) (omega arith) h)

bump-here : (xs : List ℤ) (i : ℕ) (k : ℤ) → i < length xs → get_or (bump xs i k) i +0 ≡ get_or xs i +0 ⊕ k
unfolding bump
bump-here xs i k h = get_or-set_same xs i (get_or xs i +0 ⊕ k) +0 h

bump-there : (xs : List ℤ) (i j : ℕ) (k : ℤ) → (j ≡ i → ⊥) → get_or (bump xs i k) j +0 ≡ get_or xs j +0
unfolding bump
bump-there xs i j k n = get_or-set_other xs i j (get_or xs i +0 ⊕ k) +0 n

-- t × the number of the row is added
pub record Placed (row first : List ℤ) (t : ℤ) (i : ℕ) (places : List ℕ) (k : ℕ) (line : List ℤ) (y : ℕ) : Type 0 where
  pub same : length line ≡ length first
  pub small : peak line ≤ peak first + y * Size.largest_entry
  pub here : get_or line i +0 ≡ get_or first i +0
  pub passed : (j : ℕ) → i < j → j < length row → NotAt places y k j → get_or line j +0 ≡ get_or first j +0 ⊕ t ⊗ get_or row j +0
  pub left : (z : ℕ) → y ≤ z → z < k → get_or line (get_or places z 0) +0 ≡ get_or first (get_or places z 0) +0

times-none : (t : ℤ) → t ⊗ +0 ≡ +0
times-none = simp linear (omega arith)

pub placed-begun : {row : List ℤ} {i : ℕ} {places : List ℕ} {x k : ℕ} (first : List ℤ) (t : ℤ) → PlacesFrom row (i + 1) places x k → Placed row first t i places k first x
placed-begun {row} {i} {places} {x} {k} first t s = record {
  same = refl;
  small = omega arith;
  here = refl;
  passed = λ j a b n. sym (second-zero (get_or first j +0) _ _ refl (ap (λ r. t ⊗ r) (s.zeros j (omega arith) b n) ∙ times-none t));
  left = λ z a b. refl;
}

module _ {row first : List ℤ} {t : ℤ} {i : ℕ} {places : List ℕ} {x k : ℕ} {line : List ℤ} {y : ℕ} (s : Placed row first t i places k line y) (q : PlacesFrom row (i + 1) places x k) (a : x ≤ y) (h : y < k) (size : length first ≡ length row) where
  abbrev p : ℕ
  p = get_or places y 0

  pub placed-more : nat_abs (t ⊗ get_or row p +0) ≤ Size.largest_entry → Placed row first t i places k (bump line p (t ⊗ get_or row p +0)) (y + 1)
  placed-more m = record {
    same = bump-length line p v ∙ s.same;
    small = omega (arith, peak-bump line p v, s.small, m);
    here = bump-there line p i v (λ e. omega (arith, e, q.inside y a h)) ∙ s.here;
    passed = λ j b c n. go j b c n (ℕ_discrete j p);
    left = λ z b c. bump-there line p (get_or places z 0) v (λ e. omega (arith, e, q.rising y z a (omega arith) c)) ∙ s.left z (omega arith) c;
  }
    where
      v : ℤ
      v = t ⊗ get_or row p +0

      go : (j : ℕ) → i < j → j < length row → NotAt places (y + 1) k j → Dec (j ≡ p) → get_or (bump line p v) j +0 ≡ get_or first j +0 ⊕ t ⊗ get_or row j +0
      go j b c n (yes e) =
          let l : p < length line = omega (arith, q.inside y a h, s.same, size) in
          rw e (bump-here line p v l ∙ ap (λ w. w ⊕ v) (s.left y (omega arith) h))
      go j b c n (no f) = bump-there line p j v f ∙ s.passed j b c (λ z l m e. other z l m e (ℕ_discrete z y))
        where
          other : (z : ℕ) → y ≤ z → z < k → get_or places z 0 ≡ j → Dec (z ≡ y) → ⊥
          other z l m e (yes g) = f (sym e ∙ ap (λ w. get_or places w 0) g)
          other z l m e (no g) = n z (omega arith) m e

pub twice-small : (a b : ℤ) → nat_abs a ≤ Limit.bit_numbers → nat_abs b ≤ Limit.bit_numbers → nat_abs (+2 ⊗ a ⊗ b) ≤ Size.largest_entry
twice-small a b h k = omega (arith, times-size (+2 ⊗ a) b, mul-le (twice-size a h) k)

-- the entry of the bit itself alone
pub first-only : (row line : List ℤ) (c : ℤ) (i : ℕ) → add_terms line (square_terms row c i 1) ≡ bump line i (square_at row c i i)
unfolding square_terms list_of add_terms
first-only row line c i =
    let e : i + 0 ≡ i = omega arith in
    rw e refl

pub square-placed : {row before line : List ℤ} {c : ℤ} {i : ℕ} {places : List ℕ} {k y : ℕ} → i < length before → length before ≡ length row → k ≤ y → y ≤ 1024 →
    Placed row (bump before i (square_at row c i i)) (+2 ⊗ get_or row i +0) i places k line y → peak (bump before i (square_at row c i i)) ≤ peak before + Size.largest_entry →
    SquareAdded row c i before line
unfolding square_at
square-placed {row} {before} {line} {c} {i} {places} {k} {y} h size d few s m = record {
  same = s.same ∙ bump-length before i _;
  entries = λ j a b. go j a b (ℕ_discrete j i);
  small = omega (arith, s.small, m);
}
  where
    go : (j : ℕ) → i ≤ j → j < length before → Dec (j ≡ i) → get_or line j +0 ≡ get_or before j +0 ⊕ square_at row c i j
    go j a b (yes e) = rw e (s.here ∙ bump-here before i _ h)
    go j a b (no n) =
        s.passed j (omega arith) (omega arith) (λ z l o e. absurd (omega arith))
        ∙ rw (ne_eqb i j (λ e. n (sym e))) (ap (λ w. w ⊕ (+2 ⊗ get_or row i +0 ⊗ get_or row j +0)) (bump-there before i j _ n))
