-- The digits of a number: its last one and those before, and how many there are.
use Rattle.std.proofs.Common.{◌≡◌, refl, ◌∙◌, Bool, true, false, List, [], ◌∷◌, ◌++◌, ℕ, zero, suc, ◌+◌, ◌*◌, ◌/◌, ◌%◌, ◌^◌, ◌≤◌, ◌<◌, arith, pow-suc, ltb, ℤ, pos, negsuc, nat_abs, length, length-append, ltb-true, ltb-false, lt-ltb, le-ltb}
use Rattle.integers.specs.Choice.{◌if◌else◌}
use Rattle.decimals.specs.Decimal.{last_digits, decimal, numeral}

digits-enough : (j k n : ℕ) → n < j → n < k → last_digits j n ≡ last_digits k n
unfolding last_digits
digits-enough zero k n h l = absurd (omega arith)
digits-enough (suc j) zero n h l = absurd (omega arith)
digits-enough (suc j) (suc k) n h l = by (ltb 9 n) refl (λ p q. digits-enough j k (n / 10) p q)
  where
    by : (t : Bool) → ltb 9 n ≡ t → (n / 10 < j → n / 10 < k → last_digits j (n / 10) ≡ last_digits k (n / 10)) →
        (last_digits j (n / 10) if t else []) ++ ((48 + n % 10) ∷ []) ≡ (last_digits k (n / 10) if t else []) ++ ((48 + n % 10) ∷ [])
    by true e more = rw (more (omega (arith, ltb-true)) (omega (arith, ltb-true)))
    by false e more = refl

-- the digits before the last one, none of a number below 10
abbrev pub front : ℕ → List ℕ
front n = decimal (n / 10) if ltb 9 n else []

pub decimal-last : (n : ℕ) → decimal n ≡ front n ++ ((48 + n % 10) ∷ [])
unfolding decimal last_digits
decimal-last n = by (ltb 9 n) refl
  where
    by : (t : Bool) → ltb 9 n ≡ t → (last_digits n (n / 10) if t else []) ++ ((48 + n % 10) ∷ []) ≡ (last_digits (suc (n / 10)) (n / 10) if t else []) ++ ((48 + n % 10) ∷ [])
    by true e = rw (digits-enough n (suc (n / 10)) (n / 10) (omega (arith, ltb-true)) (omega arith))
    by false e = refl

-- ---- how many there are

pub decimal-small : (n : ℕ) → n ≤ 9 → length (decimal n) ≡ 1
decimal-small n h = rw (decimal-last n, le-ltb 9 n (omega arith)) refl

pub decimal-more : (n : ℕ) → 9 < n → length (decimal n) ≡ length (decimal (n / 10)) + 1
decimal-more n h = rw (decimal-last n, lt-ltb 9 n h) (length-append (decimal (n / 10)) _)

pub decimal-length : (k n : ℕ) → n < 10 ^ suc k → length (decimal n) ≤ suc k
decimal-length zero n h = omega (arith, decimal-small n (omega (arith, h)))
decimal-length (suc k) n h = by (ltb 9 n) refl (decimal-length k (n / 10))
  where
    by : (t : Bool) → ltb 9 n ≡ t → (n / 10 < 10 ^ suc k → length (decimal (n / 10)) ≤ suc k) → length (decimal n) ≤ suc (suc k)
    by true e few =
        let p : n < 10 ^ suc k * 10 = rw (pow-suc 10 (suc k)) at h in
        omega (arith, decimal-more n (omega (arith, ltb-true)), few (omega arith))
    by false e few = omega (arith, decimal-small n (omega (arith, ltb-false)))

-- a signed number may have a hyphen more
pub numeral-length : (k : ℕ) (z : ℤ) → nat_abs z < 10 ^ suc k → length (numeral z) ≤ suc (suc k)
unfolding numeral
numeral-length k (pos n) h = omega (arith, decimal-length k n h)
numeral-length k (negsuc n) h = omega (arith, decimal-length k (suc n) h)

-- ---- a reader of one digit after the other gives the number back
module _ (read : List ℕ → ℕ) (none : read [] ≡ 0) (last : (xs : List ℕ) (d : ℕ) → read (xs ++ ((48 + d) ∷ [])) ≡ 10 * read xs + d) where
  digits-back : (k n : ℕ) → n < k → read (last_digits k n) ≡ n
  unfolding last_digits
  digits-back zero n h = absurd (omega arith)
  digits-back (suc k) n h = by (ltb 9 n) refl (digits-back k (n / 10))
    where
      by : (t : Bool) → ltb 9 n ≡ t → (n / 10 < k → read (last_digits k (n / 10)) ≡ n / 10) → read ((last_digits k (n / 10) if t else []) ++ ((48 + n % 10) ∷ [])) ≡ n
      by true e more = last (last_digits k (n / 10)) (n % 10) ∙ rw (more (omega (arith, ltb-true))) (omega arith)
      by false e more = last [] (n % 10) ∙ rw none (omega (arith, ltb-false))

  pub decimal-back : (n : ℕ) → read (decimal n) ≡ n
  unfolding decimal
  decimal-back n = digits-back (suc n) n (omega arith)
