-- A number from its last digit on, right in any number of columns, and laying it so, the last column first.
use Rattle.std.proofs.Common.{◌≡◌, refl, sym, ap, ◌∙◌, Bool, true, false, List, [], ◌∷◌, ◌++◌, append_assoc, append-nil, ℕ, zero, suc, ◌+◌, ◌-◌, ◌/◌, ◌%◌, ◌≤◌, ◌<◌, arith, ltb, ℤ, pos, negsuc, nat_abs, length, length-append, set, ltb-true, ltb-false, lt-ltb, le-ltb}
use lib.Dec.{leb-zero}
use lib.Signed.{le_z, lt_z, mag}
use Rattle.integers.specs.Choice.{◌if◌else◌}
use Rattle.integers.proofs.Tests.{false-true}
use Rattle.words.specs.Overlay.{overlay}
use Rattle.decimals.specs.Printed.{Prints}
use Rattle.decimals.specs.declared.Page.{Page}
use Rattle.decimals.proofs.Printed.{then_prints}
use Rattle.words.proofs.Overlay.{last-first}
use Rattle.decimals.specs.Ahead.{byte_of, minus_after, ahead}
use Rattle.decimals.specs.Column.{blanks, right}
use Rattle.decimals.specs.Decimal.{decimal, numeral}
use Rattle.decimals.specs.Marked.{marked}
use Rattle.decimals.proofs.Columns.{blanks-last, right-last, right-none}
use Rattle.decimals.proofs.Digits.{decimal-last}

-- what is still to come: the digits of `rest`, none of 0, after a hyphen
abbrev to_come : Bool → ℕ → List ℕ
to_come minus rest = (45 ∷ [] if minus else []) ++ (decimal rest if ltb 0 rest else [])

pub length-ahead : (w : ℕ) (m : Bool) (n : ℕ) → length (ahead w m n) ≡ w
unfolding ahead
length-ahead zero m n = refl
length-ahead (suc w) m n = length-append (ahead w (minus_after m n) (n / 10)) _ ∙ omega (arith, length-ahead w (minus_after m n) (n / 10))

pub ahead-blanks : (w : ℕ) → ahead w false 0 ≡ blanks w
unfolding ahead minus_after byte_of blanks
ahead-blanks zero = refl
ahead-blanks (suc w) = ap (λ (l : List ℕ). l ++ (32 ∷ [])) (ahead-blanks w) ∙ blanks-last w

one-test : (n : ℕ) → ltb 9 n ≡ ltb 0 (n / 10)
one-test n = by (ltb 9 n) refl
  where
    by : (t : Bool) → ltb 9 n ≡ t → t ≡ ltb 0 (n / 10)
    by true e = sym (lt-ltb 0 (n / 10) (omega (arith, ltb-true)))
    by false e = sym (le-ltb 0 (n / 10) (omega (arith, ltb-false)))

marked-last : (m : Bool) (n : ℕ) → marked m n ≡ to_come m (n / 10) ++ ((48 + n % 10) ∷ [])
unfolding marked
marked-last m n = rw (decimal-last n, one-test n) (sym (append_assoc (45 ∷ [] if m else []) (decimal (n / 10) if ltb 0 (n / 10) else []) ((48 + n % 10) ∷ [])))

-- a number that is not 0 is all to come, after its hyphen
ahead-number : (w : ℕ) (m : Bool) (n : ℕ) → length (marked m n) ≤ suc w → (length (to_come m (n / 10)) ≤ w → ahead w m (n / 10) ≡ right w (to_come m (n / 10))) →
    ahead w m (n / 10) ++ ((48 + n % 10) ∷ []) ≡ right (suc w) (marked m n)
ahead-number w m n h more =
    let l : length (marked m n) ≡ length (to_come m (n / 10)) + 1 = ap length (marked-last m n) ∙ length-append (to_come m (n / 10)) _ in
    rw (marked-last m n, right-last, more (omega arith))

ahead_hyphen : (w : ℕ) (m : Bool) → ahead w false 0 ++ ((45 if m else 32) ∷ []) ≡ right (suc w) ((45 ∷ [] if m else []) ++ [])
unfolding right
ahead_hyphen w true = let e : suc w - 1 ≡ w = omega arith in rw (ahead-blanks w, e)
ahead_hyphen w false = let e : suc w - 0 ≡ suc w = omega arith in rw (ahead-blanks w, blanks-last w, e) (sym (append-nil _))

ahead-right : (w : ℕ) (m : Bool) (n : ℕ) → length (to_come m n) ≤ w → ahead w m n ≡ right w (to_come m n)
unfolding ahead minus_after byte_of marked
ahead-right zero m n h = right-none _ h
ahead-right (suc w) m n h = by (ltb 0 n) refl h (λ m. ahead-right w m (n / 10))
  where
    by : (t : Bool) → ltb 0 n ≡ t → length ((45 ∷ [] if m else []) ++ (decimal n if t else [])) ≤ suc w →
        ((m : Bool) → length (to_come m (n / 10)) ≤ w → ahead w m (n / 10) ≡ right w (to_come m (n / 10))) →
        ahead w (m if t else false) (n / 10) ++ ((48 + n % 10 if t else 45 if m else 32) ∷ []) ≡ right (suc w) ((45 ∷ [] if m else []) ++ (decimal n if t else []))
    by true e h more = ahead-number w m n h (more m)
    by false e h more = let z : n / 10 ≡ 0 = omega (arith, ltb-false) in rw z (ahead_hyphen w m)

-- the law over the width: the last digit, and ahead of it what stands there
pub number-last : (w : ℕ) (m : Bool) (n : ℕ) → length (marked m n) ≤ suc w → ahead w m (n / 10) ++ ((48 + n % 10) ∷ []) ≡ right (suc w) (marked m n)
number-last w m n h = ahead-number w m n h (ahead-right w m (n / 10))

-- ---- numbers by a flag for the hyphen

-- a number has a digit; without a hyphen it is its digits
pub marked-some : (m : Bool) (n : ℕ) → 1 ≤ length (marked m n)
marked-some m n = omega (arith, ap length (marked-last m n), length-append (to_come m (n / 10)) ((48 + n % 10) ∷ []))

pub alone : (n : ℕ) → marked false n ≡ decimal n
unfolding marked
alone n = refl

-- a signed number by whether it is below 0, and its size
plain : (b : Bool) → b ≡ false → (n : ℕ) → decimal n ≡ marked b n
unfolding marked
plain true e n = false-true (sym e)
plain false e n = refl

pub numeral-marked : (z : ℤ) → numeral z ≡ marked (lt_z z (pos 0)) (nat_abs z)
unfolding numeral marked
numeral-marked (pos n) = plain (lt_z (pos n) (pos 0)) (le-ltb n 0 (omega arith)) n
numeral-marked (negsuc n) = refl

-- its size by how far it is from 0 or from −1
pub size-from : (z : ℤ) → le_z (pos 0) z ≡ true → mag z ≡ nat_abs z
size-from (pos n) t = refl
size-from (negsuc n) t = false-true t

pub size_below : (z : ℤ) → le_z (pos 0) z ≡ false → mag z + 1 ≡ nat_abs z
size_below (pos n) t = false-true (sym t ∙ leb-zero n)
size_below (negsuc n) t = omega arith

-- ---- laying them, the last column first

module _ (out : List ℕ) (at : ℕ) where
  pub column_first : (w : ℕ) (m : Bool) (n : ℕ) → 0 < w →
      overlay out at (ahead w m n) ≡ overlay (set out (at + (w - 1)) (byte_of m n)) at (ahead (w - 1) (minus_after m n) (n / 10))
  unfolding ahead
  column_first zero m n h = absurd (omega arith)
  column_first (suc w) m n h =
      let e : suc w - 1 ≡ w = omega arith in
      rw (e, last-first out at (ahead w (minus_after m n) (n / 10)) (byte_of m n), length-ahead)

  pub no-columns : (w : ℕ) (m : Bool) (n : ℕ) → w ≤ 0 → overlay out at (ahead w m n) ≡ out
  unfolding ahead overlay
  no-columns zero m n h = refl
  no-columns (suc w) m n h = absurd (omega arith)

-- a number printed: what stands ahead of its last digit, then that
pub number-laid : (columns : ℕ) (m : Bool) (n : ℕ) → length (marked m n) ≤ columns → {p q r : Page} → Prints p (ahead (columns - 1) m (n / 10)) q → Prints q ((48 + n % 10) ∷ []) r → Prints p (right columns (marked m n)) r
number-laid zero m n h a d = absurd (omega (arith, marked-some m n))
number-laid (suc w) m n h a d = let e : suc w - 1 ≡ w = omega arith in rw (e, number-last w m n h) at (then_prints a d)
