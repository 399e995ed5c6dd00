-- Reading a number digit by digit, capped above the range. For `decimal_of` and `value_of`.
use Rattle.std.proofs.Common.{◌≡◌, refl, sym, ap, ◌∙◌, Bool, true, false, ◌&&◌, List, [], ◌∷◌, ℕ, zero, suc, ◌+◌, ◌-◌, ◌*◌, ◌<◌, ◌≤◌, min, add-one, arith, leb, eqb, ℤ, pos, negsuc, neg_ℤ, ◌-ℤ◌, w64, to_z, of_z, drop-cons, length, get_or, take, drop, drop_of_length-le, le-leb, lt-ltb, leb-true, leb-false, Option, Some, None}
use Rattle.std.specs.Cmp.Lexicographic.{pointwise}
use borrow.Author.Tests.{lt-leb}
use mir.Facts.{to_z_pos}
use Rattle.integers.specs.Choice.{◌if◌else◌}
use Rattle.integers.specs.Bounds.{within}
use Rattle.integers.proofs.Fits.{back}
use Rattle.words.specs.Word.{in_range}
use Rattle.tokens.specs.Byte.{front}
use Rattle.grammar.specs.Value.{digits_from, value_of}
use Rattle.grammar.specs.Machine.{cap}

grows : (v : ℕ) (ds : List ℕ) → v ≤ digits_from v ds
unfolding digits_from
grows v [] = omega arith
grows v (d ∷ ds) = omega (arith, grows (v * 10 + (d - 48)) ds)

cap-high : (n : ℕ) → 134217727 < n → cap n ≡ 134217728
unfolding cap
cap-high n l = rw (lt-leb n 134217727 l)

cap-low : (n : ℕ) → n ≤ 134217727 → cap n ≡ n
unfolding cap
cap-low n l = rw (le-leb n 134217727 l)

pub cap-min : (n : ℕ) → min n 134217728 ≡ cap n
cap-min n = go (leb n 134217727) refl
  where
    go : (b : Bool) → leb n 134217727 ≡ b → min n 134217728 ≡ cap n
    go true q = omega (arith, cap-low n (leb-true n 134217727 q), leb-true n 134217727 q)
    go false q = omega (arith, cap-high n (leb-false n 134217727 q), leb-false n 134217727 q)

pub cap-most : (n : ℕ) → cap n ≤ 134217728
cap-most n = omega (arith, cap-min n)

pub cap-again : (n : ℕ) → cap (cap n) ≡ cap n
cap-again n = omega (arith, cap-min n, cap-min (cap n))

cap-early : (v : ℕ) (ds : List ℕ) → cap (digits_from v ds) ≡ cap (digits_from (cap v) ds)
cap-early v ds = go (leb v 134217727) refl
  where
    go : (b : Bool) → leb v 134217727 ≡ b → cap (digits_from v ds) ≡ cap (digits_from (cap v) ds)
    go true q = ap (λ (n : ℕ). cap (digits_from n ds)) (sym (cap-low v (leb-true v 134217727 q)))
    go false q =
        let h : 134217727 < v = leb-false v 134217727 q in
        cap-high (digits_from v ds) (omega (arith, h, grows v ds)) ∙ sym (cap-high (digits_from (cap v) ds) (omega (arith, cap-high v h, grows (cap v) ds)))

module _ (ds : List ℕ) (i v : ℕ) where
  pub digits-on : i < length ds → cap (digits_from v (drop i ds)) ≡ cap (digits_from (cap (v * 10 + (get_or ds i 0 - 48))) (drop (i + 1) ds))
  unfolding digits_from
  digits-on l =
      let e : drop i ds ≡ get_or ds i 0 ∷ drop (i + 1) ds = rw (add-one i) (drop-cons ds i 0 l) in
      ap (λ (xs : List ℕ). cap (digits_from v xs)) e ∙ cap-early (v * 10 + (get_or ds i 0 - 48)) (drop (i + 1) ds)

  pub digits-end : length ds ≤ i → cap (digits_from v (drop i ds)) ≡ cap v
  unfolding digits_from
  digits-end l = ap (λ (xs : List ℕ). cap (digits_from v xs)) (drop_of_length-le ds l)

-- ---- a number of the range by its size and its hyphen

abbrev signed : Bool → ℕ → ℤ
signed b n = neg_ℤ (pos n) if b else pos n

signed_range : (m : ℕ) (b : Bool) → in_range (signed b m) ≡ leb m 134217727
unfolding within
signed_range zero true = refl
signed_range (suc n) true = by (leb n 134217726) refl
  where
    by : (t : Bool) → leb n 134217726 ≡ t → t && true ≡ leb (suc n) 134217727
    by true e = sym (le-leb (suc n) 134217727 (omega (arith, leb-true n 134217726 e)))
    by false e = sym (lt-leb (suc n) 134217727 (omega (arith, leb-false n 134217726 e)))
signed_range m false = refl

-- a number, if it is in the range: capping its size first makes no difference
abbrev pub ranged : ℤ → Option ℤ
ranged z = Some z if in_range z else None

opposite : (m : ℕ) → m ≤ 134217728 → to_z w64 (of_z w64 (pos 0 -ℤ pos m)) ≡ neg_ℤ (pos m)
opposite zero h = refl
opposite (suc k) h = let e : pos 0 -ℤ pos (suc k) ≡ negsuc k = simp (lt-ltb 0 (suc k) (omega arith)) (ap negsuc (omega arith)) in rw e (back (negsuc k) (omega (arith, h)))

module _ (n : ℕ) where
  ranged-cap : (b : Bool) → ranged (signed b (cap n)) ≡ ranged (signed b n)
  ranged-cap b = go (leb n 134217727) refl
    where
      go : (t : Bool) → leb n 134217727 ≡ t → ranged (signed b (cap n)) ≡ ranged (signed b n)
      go true q = rw (cap-low n (leb-true n 134217727 q))
      go false q = let h = leb-false n 134217727 q in rw (signed_range (cap n) b, signed_range n b, q, lt-leb (cap n) 134217727 (omega (arith, cap-high n h)))

  module _ {m : ℕ} (e : m ≡ cap n) where
    pub plain : ranged (to_z w64 m) ≡ ranged (pos n)
    plain = rw (to_z_pos w64 {n = m} (omega (arith, cap-most n)), e) (ranged-cap false)

    pub negated : ranged (to_z w64 (of_z w64 (pos 0 -ℤ to_z w64 m))) ≡ ranged (neg_ℤ (pos n))
    negated = rw (to_z_pos w64 {n = m} (omega (arith, cap-most n)), opposite m (omega (arith, cap-most n)), e) (ranged-cap true)

-- ---- the number that a token spells, after a hyphen or not

module _ (bs : List ℕ) where
  starts : pointwise eqb (take 1 bs) (45 ∷ []) ≡ eqb (front bs) 45
  unfolding front
  starts = go bs
    where
      go : (xs : List ℕ) → pointwise eqb (take 1 xs) (45 ∷ []) ≡ eqb (get_or xs 0 0) 45
      go [] = refl
      go (x ∷ xs) = by (eqb x 45)
        where
          by : (b : Bool) → b && true ≡ b
          by true = refl
          by false = refl

  pub after_hyphen : pointwise eqb (take 1 bs) (45 ∷ []) ≡ true → value_of bs ≡ neg_ℤ (pos (digits_from 0 (drop 1 bs)))
  unfolding value_of
  after_hyphen e = rw (← starts, e)

  pub without_hyphen : pointwise eqb (take 1 bs) (45 ∷ []) ≡ false → value_of bs ≡ pos (digits_from 0 bs)
  unfolding value_of
  without_hyphen e = rw (← starts, e)
