-- Numbers in decimal are read as the numbers that they were, and names of variables as their numbers.
use Rattle.std.proofs.Common.{◌≡◌, refl, sym, ap, ◌∙◌, Bool, true, false, ◌&&◌, ◌||◌, List, [], ◌∷◌, ◌++◌, ℕ, zero, suc, ◌+◌, ◌-◌, ◌*◌, ◌/◌, ◌%◌, ◌<◌, ◌≤◌, arith, eqb, ltb, ℤ, pos, negsuc, neg_ℤ, length, length-append, le-leb, ne_eqb, eqb-true, ltb-true, ltb-false}
use Rattle.integers.specs.Choice.{◌if◌else◌}
use Rattle.integers.specs.Lists.{all, any, list_of}
use Rattle.integers.proofs.Booleans.{both_true}
use Rattle.integers.proofs.Places.{all_append}
use Rattle.words.specs.Word.{payload, signed, word, complement, number_word}
use Rattle.words.specs.Limit as Limit
use Rattle.words.proofs.ReadBack.{payload-below}
use Rattle.decimals.specs.Decimal as Decimal
use Rattle.decimals.specs.Decimal.{last_digits, numeral}
use Rattle.decimals.proofs.Digits as Digits
use Rattle.decimals.proofs.Digits.{decimal-length}
use Rattle.tokens.specs.Byte.{bytes, front, between, is_letter, in_name, is_digit, is_gap}
use Rattle.tokens.specs.Token.{tokens_from}
use Rattle.names.specs.Name.{same, look_up}
use Rattle.names.proofs.Names.{same_self, look_append}
use Rattle.grammar.specs.Value.{digits_from, value_of}
use Rattle.printing.specs.ModelText.{variable_name}
use Rattle.printing.proofs.Spelled.{token, digit-range, spelled-name, spelled-digits, spelled-minus}

-- ---- digits

one-digit : (d : ℕ) → d < 10 → all is_digit ((48 + d) ∷ []) ≡ true
unfolding all is_digit between
one-digit d h = rw (le-leb 48 (48 + d) (omega arith), le-leb (48 + d) 57 (omega arith))

digits_are : (k n : ℕ) → all is_digit (last_digits k n) ≡ true
unfolding last_digits all
digits_are zero n = refl
digits_are (suc k) n = go (ltb 9 n) (digits_are k (n / 10))
  where
    go : (b : Bool) → all is_digit (last_digits k (n / 10)) ≡ true → all is_digit ((last_digits k (n / 10) if b else []) ++ ((48 + n % 10) ∷ [])) ≡ true
    go true h = rw (all_append is_digit (last_digits k (n / 10)), h) (one-digit (n % 10) (omega arith))
    go false h = one-digit (n % 10) (omega arith)

pub decimal-digits : (n : ℕ) → all is_digit (Decimal.decimal n) ≡ true
unfolding Decimal.decimal
decimal-digits n = digits_are (suc n) n

pub decimal-some : (n : ℕ) → 1 ≤ length (Decimal.decimal n)
unfolding Decimal.decimal last_digits
decimal-some n = omega (arith, length-append (last_digits n (n / 10) if ltb 9 n else []) ((48 + n % 10) ∷ []))

pub numeral-some : (z : ℤ) → 1 ≤ length (numeral z)
unfolding numeral
numeral-some (pos n) = decimal-some n
numeral-some (negsuc n) = omega arith

-- ---- read as a number

decimal-append : (n : ℕ) (xs ys : List ℕ) → digits_from n (xs ++ ys) ≡ digits_from (digits_from n xs) ys
unfolding digits_from
decimal-append n [] ys = refl
decimal-append n (x ∷ xs) ys = decimal-append (n * 10 + (x - 48)) xs ys

digit-back : (n d : ℕ) → digits_from n ((48 + d) ∷ []) ≡ 10 * n + d
unfolding digits_from
digit-back n d = omega arith

pub decimal-back : (n : ℕ) → digits_from 0 (Decimal.decimal n) ≡ n
unfolding digits_from
decimal-back = Digits.decimal-back (digits_from 0) refl (λ xs d. decimal-append 0 xs ((48 + d) ∷ []) ∙ digit-back (digits_from 0 xs) d)

-- ---- a number's token

plain : (ds : List ℕ) → all is_digit ds ≡ true → value_of ds ≡ pos (digits_from 0 ds)
unfolding all value_of front
plain [] h = refl
plain (d ∷ ds) h =
    let r = digit-range d (both_true (is_digit d) (all is_digit ds) h).0 in
    rw (ne_eqb d 45 (λ e. omega arith))

-- a number in decimal is read as it was
pub value-back : (z : ℤ) → value_of (numeral z) ≡ z
unfolding numeral value_of front
value-back (pos n) = plain (Decimal.decimal n) (decimal-digits n) ∙ ap pos (decimal-back n)
value-back (negsuc n) = ap (λ (m : ℕ). neg_ℤ (pos m)) (decimal-back (suc n))

-- and its word is the one that it was printed from
pub signed_back : (k w : ℕ) → number_word k (signed w) ≡ word k (payload w)
unfolding number_word signed complement
signed_back k w = ap (word k) (go (ltb (payload w) Limit.half) refl)
  where
    go : (b : Bool) → ltb (payload w) Limit.half ≡ b → complement (pos (payload w) if b else negsuc (268435455 - payload w)) ≡ payload w
    go true e = omega (arith, payload-below w)
    go false e = omega (arith, payload-below w)

-- ---- the names of variables

same-onward : (xs ys : List ℕ) (n : ℕ) → same xs ys ≡ true → digits_from n xs ≡ digits_from n ys
unfolding digits_from
same-onward [] [] n h = refl
same-onward [] (y ∷ ys) n h = absurd (let z : ◌≡◌ {A = ℕ} 0 1 = cc in omega arith)
same-onward (x ∷ xs) [] n h = absurd (let z : ◌≡◌ {A = ℕ} 0 1 = cc in omega arith)
same-onward (x ∷ xs) (y ∷ ys) n h = by (eqb x y) refl h (same-onward xs ys (n * 10 + (x - 48)))
  where
    by : (b : Bool) → eqb x y ≡ b → b && same xs ys ≡ true → (same xs ys ≡ true → digits_from (n * 10 + (x - 48)) xs ≡ digits_from (n * 10 + (x - 48)) ys) → digits_from (n * 10 + (x - 48)) xs ≡ digits_from (n * 10 + (y - 48)) ys
    by true e q more = more q ∙ ap (λ (z : ℕ). digits_from (n * 10 + (z - 48)) ys) (eqb-true x y e)
    by false e q more = absurd (let z : ◌≡◌ {A = ℕ} 0 1 = cc in omega arith)

name-same : (i : ℕ) → same (variable_name i) (variable_name i) ≡ true
name-same i = same_self (variable_name i)

name-other : (i j : ℕ) → (i ≡ j → ⊥) → same (variable_name i) (variable_name j) ≡ false
unfolding variable_name
name-other i j h = by (same (Decimal.decimal i) (Decimal.decimal j)) refl
  where
    by : (b : Bool) → same (Decimal.decimal i) (Decimal.decimal j) ≡ b → b ≡ false
    by true e = absurd (h (sym (decimal-back i) ∙ same-onward (Decimal.decimal i) (Decimal.decimal j) 0 e ∙ decimal-back j))
    by false e = refl

-- the names of the first n variables
abbrev pub named : ℕ → List (List ℕ)
named zero = []
named (suc n) = named n ++ (variable_name n ∷ [])

named-length : (n : ℕ) → length (named n) ≡ n
named-length zero = refl
named-length (suc n) = length-append (named n) (variable_name n ∷ []) ∙ omega (arith, named-length n)

pub not_found : (n i : ℕ) → n ≤ i → look_up (variable_name i) 0 (named n) ≡ 0
unfolding look_up
not_found zero i h = refl
not_found (suc n) i h =
    look_append (variable_name i) 0 (named n) (variable_name n ∷ []) ∙ rw (not_found n i (omega arith), name-other i n (λ e. omega arith))

pub found : (n i : ℕ) → i < n → look_up (variable_name i) 0 (named n) ≡ i + 1
unfolding look_up
found zero i h = absurd (omega arith)
found (suc n) i h = by (ltb i n) refl (found n i)
  where
    by : (b : Bool) → ltb i n ≡ b → (i < n → look_up (variable_name i) 0 (named n) ≡ i + 1) → look_up (variable_name i) 0 (named (suc n)) ≡ i + 1
    by true e more =
        let q : look_up (variable_name i) 0 (named n) ≡ i + 1 = more (ltb-true i n e) in
        look_append (variable_name i) 0 (named n) (variable_name n ∷ []) ∙ rw (q, ne_eqb (i + 1) 0 (λ z. omega arith))
    by false e more =
        let same_number : i ≡ n = omega (arith, ltb-false i n e) in
        look_append (variable_name i) 0 (named n) (variable_name n ∷ [])
        ∙ rw (not_found n i (omega (arith, ltb-false i n e)), same_number, name-same n) (omega (arith, named-length n))

-- a name has letters and digits, at most 4
digit_in_name : (ds : List ℕ) → all is_digit ds ≡ true → all in_name ds ≡ true
unfolding all in_name
digit_in_name [] h = refl
digit_in_name (d ∷ ds) h =
    let q = both_true (is_digit d) (all is_digit ds) h in
    rw (q.0, digit_in_name ds q.1) (by (is_letter d))
  where
    by : (b : Bool) → (b || true || eqb d 95) && true ≡ true
    by true = refl
    by false = refl

x_letter : is_letter 120 ≡ true
unfolding is_letter between
x_letter = refl

x_no_gap : is_gap 120 ≡ false
unfolding is_gap any bytes list_of
x_no_gap = refl

pub name-token : (p i : ℕ) (ys : List ℕ) → i < 256 → in_name (front ys) ≡ false → tokens_from 0 p (variable_name i ++ ys) ≡ token 2 p (variable_name i) ∷ tokens_from 0 (p + length (variable_name i)) ys
unfolding variable_name
name-token p i ys l e =
    let n : 1 + length (Decimal.decimal i) ≡ suc (length (Decimal.decimal i)) = omega arith in
    rw n at (spelled-name 120 (Decimal.decimal i) ys x_letter (digit_in_name (Decimal.decimal i) (decimal-digits i)) e (omega (arith, decimal-length 2 i (omega arith))) x_no_gap p)

pub number-token : (p : ℕ) (z : ℤ) (ys : List ℕ) → is_digit (front ys) ≡ false → tokens_from 0 p (numeral z ++ ys) ≡ token 1 p (numeral z) ∷ tokens_from 0 (p + length (numeral z)) ys
unfolding numeral
number-token p (pos n) ys e = spelled-digits (Decimal.decimal n) ys (decimal-some n) (decimal-digits n) e p
number-token p (negsuc n) ys e = spelled-minus (Decimal.decimal (suc n)) ys (decimal-some (suc n)) (decimal-digits (suc n)) e p
