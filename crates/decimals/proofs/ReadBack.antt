-- Numbers can be read back from their columns, whatever the width: two numbers with the same text in columns are the same.
use Rattle.std.proofs.Common.{◌≡◌, refl, sym, ap, ◌∙◌, Bool, true, false, List, [], ◌∷◌, ◌++◌, ℕ, zero, suc, ◌+◌, ◌-◌, ◌*◌, ◌/◌, ◌%◌, arith, ltb, eqb, ℤ, pos, negsuc, length, lt-ltb, ne_eqb}
use Rattle.decimals.proofs.Digits.{decimal-back}
use Rattle.integers.specs.Choice.{◌if◌else◌}
use Rattle.decimals.specs.Column.{blanks, right, left}
use Rattle.decimals.specs.Decimal.{last_digits, decimal, numeral}

-- ---- a reader: the number that the digits of a text add to n, and whether the text has a hyphen; blanks say nothing

abbrev onward : ℕ → List ℕ → ℕ
onward n [] = n
onward n (b ∷ bs) = onward (10 * n + (b - 48) if ltb 47 b else n) bs

abbrev hyphened : List ℕ → Bool
hyphened [] = false
hyphened (b ∷ bs) = true if eqb b 45 else hyphened bs

abbrev signed_by : Bool → ℕ → ℤ
signed_by true n = negsuc (n - 1)
signed_by false n = pos n

abbrev number : List ℕ → ℤ
number text = signed_by (hyphened text) (onward 0 text)

-- ---- blanks

onward-blanks : (n k : ℕ) (text : List ℕ) → onward n (blanks k ++ text) ≡ onward n text
unfolding blanks
onward-blanks n zero text = refl
onward-blanks n (suc k) text = onward-blanks n k text

hyphened-blanks : (k : ℕ) (text : List ℕ) → hyphened (blanks k ++ text) ≡ hyphened text
unfolding blanks
hyphened-blanks zero text = refl
hyphened-blanks (suc k) text = hyphened-blanks k text

only-blanks : (n k : ℕ) → onward n (blanks k) ≡ n
unfolding blanks
only-blanks n zero = refl
only-blanks n (suc k) = only-blanks n k

-- ---- digits

onward-append : (n : ℕ) (xs ys : List ℕ) → onward n (xs ++ ys) ≡ onward (onward n xs) ys
onward-append n [] ys = refl
onward-append n (x ∷ xs) ys = onward-append (10 * n + (x - 48) if ltb 47 x else n) xs ys

one-digit : (n d : ℕ) → onward n ((48 + d) ∷ []) ≡ 10 * n + d
one-digit n d = let e : 48 + d - 48 ≡ d = omega arith in rw (lt-ltb 47 (48 + d) (omega arith), e)

number-back : (n : ℕ) → onward 0 (decimal n) ≡ n
number-back = decimal-back (onward 0) refl (λ xs d. onward-append 0 xs ((48 + d) ∷ []) ∙ one-digit (onward 0 xs) d)

no_hyphen : (xs : List ℕ) (d : ℕ) → hyphened xs ≡ false → hyphened (xs ++ ((48 + d) ∷ [])) ≡ false
no_hyphen [] d h = rw (ne_eqb (48 + d) 45 (λ e. omega arith))
no_hyphen (x ∷ xs) d h = by (eqb x 45) h (no_hyphen xs d)
  where
    by : (t : Bool) → (true if t else hyphened xs) ≡ false → (hyphened xs ≡ false → hyphened (xs ++ ((48 + d) ∷ [])) ≡ false) → (true if t else hyphened (xs ++ ((48 + d) ∷ []))) ≡ false
    by true h more = h
    by false h more = more h

digits-plain : (k n : ℕ) → hyphened (last_digits k n) ≡ false
unfolding last_digits
digits-plain zero n = refl
digits-plain (suc k) n = by (ltb 9 n) (digits-plain k (n / 10))
  where
    by : (t : Bool) → hyphened (last_digits k (n / 10)) ≡ false → hyphened ((last_digits k (n / 10) if t else []) ++ ((48 + n % 10) ∷ [])) ≡ false
    by true h = no_hyphen (last_digits k (n / 10)) (n % 10) h
    by false h = no_hyphen [] (n % 10) refl

decimal-plain : (n : ℕ) → hyphened (decimal n) ≡ false
unfolding decimal
decimal-plain n = digits-plain (suc n) n

-- ---- numbers

numeral-back : (z : ℤ) → number (numeral z) ≡ z
unfolding numeral
numeral-back (pos n) = rw (decimal-plain n, number-back n)
numeral-back (negsuc n) = let e : suc n - 1 ≡ n = omega arith in rw (number-back (suc n), e)

right-back : (columns : ℕ) (z : ℤ) → number (right columns (numeral z)) ≡ z
unfolding right
right-back columns z =
    let k = columns - length (numeral z) in
    rw (hyphened-blanks k (numeral z), onward-blanks 0 k (numeral z)) (numeral-back z)

left_back : (columns n : ℕ) → onward 0 (left columns (decimal n)) ≡ n
unfolding left
left_back columns n =
    onward-append 0 (decimal n) (blanks (columns - length (decimal n)))
    ∙ only-blanks (onward 0 (decimal n)) (columns - length (decimal n)) ∙ number-back n

-- two numbers with the same text right in columns, and left in columns
pub same-right : (columns : ℕ) (a b : ℤ) → right columns (numeral a) ≡ right columns (numeral b) → a ≡ b
same-right columns a b e = sym (right-back columns a) ∙ ap number e ∙ right-back columns b

pub same_left : (columns a b : ℕ) → left columns (decimal a) ≡ left columns (decimal b) → a ≡ b
same_left columns a b e = sym (left_back columns a) ∙ ap (onward 0) e ∙ left_back columns b
