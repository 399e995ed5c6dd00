-- Spelled tokens are read: a token before a byte that cannot continue it is the next one.
use Rattle.std.proofs.Common.{◌≡◌, refl, sym, ap, ◌∙◌, Bool, true, false, ◌&&◌, ◌||◌, List, [], ◌∷◌, ◌++◌, ℕ, suc, ◌+◌, ◌-◌, ◌<◌, ◌≤◌, add-zero, arith, eqb, leb, length, le-leb, leb-true, ne_eqb, cond}
use lib.Seq.{take-append_seam}
use borrow.Author.Tests.{lt-leb}
use Rattle.integers.specs.Lists.{all, any, list_of}
use Rattle.integers.proofs.Tests.{false-true}
use Rattle.integers.proofs.Booleans.{both_true}
use Rattle.tokens.specs.Byte.{bytes, front, run, between, is_letter, in_name, is_digit, is_gap, is_sign}
use Rattle.tokens.specs.Token.{Token, token_length, sort_of, starts_number, starts_dots, tokens_from}

abbrev pub token : ℕ → ℕ → List ℕ → Token
token s p bs = record { sort = s; place = p; spelling = bs }

-- what is left of a token is passed
skipped : (p : ℕ) (xs ys : List ℕ) → tokens_from (length xs) p (xs ++ ys) ≡ tokens_from 0 (p + length xs) ys
unfolding tokens_from
skipped p [] ys = ap (λ (q : ℕ). tokens_from 0 q ys) (sym (add-zero p))
skipped p (x ∷ xs) ys = let e : p + 1 + length xs ≡ p + suc (length xs) = omega arith in skipped (p + 1) xs ys ∙ ap (λ (q : ℕ). tokens_from 0 q ys) e

-- a run of bytes that pass a test, before one that does not
runs : (t : ℕ → Bool) (xs ys : List ℕ) → all t xs ≡ true → t (front ys) ≡ false → run t (xs ++ ys) ≡ length xs
unfolding all front
runs t [] [] h e = refl
runs t [] (y ∷ ys) h e = rw e
runs t (x ∷ xs) ys h e = go (t x) h (runs t xs ys)
  where
    go : (b : Bool) → b && all t xs ≡ true → (all t xs ≡ true → t (front ys) ≡ false → run t (xs ++ ys) ≡ length xs) → cond b (1 + run t (xs ++ ys)) 0 ≡ suc (length xs)
    go true q more = omega (arith, more q e)
    go false q more = false-true q

-- a name
module _ (b : ℕ) (xs ys : List ℕ) (l : is_letter b ≡ true) (h : all in_name xs ≡ true) (e : in_name (front ys) ≡ false) (short : length xs < 32) where
  name-length : token_length b (xs ++ ys) ≡ 1 + length xs
  unfolding token_length
  name-length = rw (l, runs in_name xs ys h e)

  name-sort : sort_of b (xs ++ ys) ≡ 2
  unfolding sort_of
  name-sort = rw (l, name-length, le-leb (1 + length xs) 32 (omega arith))

  pub spelled-name : is_gap b ≡ false → (p : ℕ) → tokens_from 0 p (b ∷ xs ++ ys) ≡ token 2 p (b ∷ xs) ∷ tokens_from 0 (p + (1 + length xs)) ys
  unfolding tokens_from
  spelled-name g p =
      let n : 1 + length xs - 1 ≡ length xs = omega arith in
      let m : 1 + length xs ≡ suc (length xs) = omega arith in
      let q : p + 1 + length xs ≡ p + suc (length xs) = omega arith in
      rw (g, name-length, name-sort, n, m, take-append_seam xs ys, skipped (p + 1) xs ys, q)

-- a number: digits, perhaps after a hyphen
pub digit-range : (d : ℕ) → is_digit d ≡ true → (48 ≤ d) × (d ≤ 57)
unfolding is_digit between
digit-range d h = let q = both_true (leb 48 d) (leb d 57) h in (leb-true 48 d q.0, leb-true d 57 q.1)

digit-gap : (d : ℕ) → is_digit d ≡ true → (is_gap d ≡ false) × (is_letter d ≡ false)
unfolding is_gap any bytes list_of is_letter between
digit-gap d h =
    let r = digit-range d h in (
      rw (ne_eqb d 32 (λ e. omega arith), ne_eqb d 10 (λ e. omega arith), ne_eqb d 37 (λ e. omega arith)),
      rw (lt-leb 65 d (omega arith), lt-leb 97 d (omega arith)),
    )

module _ (d : ℕ) (ds ys : List ℕ) (h : is_digit d ≡ true) (k : all is_digit ds ≡ true) (e : is_digit (front ys) ≡ false) where
  digits-length : token_length d (ds ++ ys) ≡ 1 + length ds
  unfolding token_length starts_number
  digits-length = rw ((digit-gap d h).1, h, runs is_digit ds ys k e)

  digits-sort : sort_of d (ds ++ ys) ≡ 1
  unfolding sort_of starts_number
  digits-sort = rw ((digit-gap d h).1, h)

  some-digits : (p : ℕ) → tokens_from 0 p (d ∷ ds ++ ys) ≡ token 1 p (d ∷ ds) ∷ tokens_from 0 (p + (1 + length ds)) ys
  unfolding tokens_from
  some-digits p =
      let n : 1 + length ds - 1 ≡ length ds = omega arith in
      let m : 1 + length ds ≡ suc (length ds) = omega arith in
      let q : p + 1 + length ds ≡ p + suc (length ds) = omega arith in
      rw ((digit-gap d h).0, digits-length, digits-sort, n, m, take-append_seam ds ys, skipped (p + 1) ds ys, q)

pub spelled-digits : (ds ys : List ℕ) → 1 ≤ length ds → all is_digit ds ≡ true → is_digit (front ys) ≡ false → (p : ℕ) → tokens_from 0 p (ds ++ ys) ≡ token 1 p ds ∷ tokens_from 0 (p + length ds) ys
unfolding all
spelled-digits [] ys l h e p = absurd (omega arith)
spelled-digits (d ∷ ds) ys l h e p =
    let q = both_true (is_digit d) (all is_digit ds) h in
    let m : 1 + length ds ≡ suc (length ds) = omega arith in
    rw m at (some-digits d ds ys q.0 q.1 e p)

front-append : (ds ys : List ℕ) → 1 ≤ length ds → all is_digit ds ≡ true → is_digit (front (ds ++ ys)) ≡ true
unfolding all front
front-append [] ys l h = absurd (omega arith)
front-append (d ∷ ds) ys l h = (both_true (is_digit d) (all is_digit ds) h).0

module _ (ds ys : List ℕ) (l : 1 ≤ length ds) (h : all is_digit ds ≡ true) (e : is_digit (front ys) ≡ false) where
  minus-length : token_length 45 (ds ++ ys) ≡ 1 + length ds
  unfolding token_length starts_number is_letter is_digit between
  minus-length = rw (front-append ds ys l h, runs is_digit ds ys h e)

  minus-sort : sort_of 45 (ds ++ ys) ≡ 1
  unfolding sort_of starts_number is_letter is_digit between
  minus-sort = rw (front-append ds ys l h)

  pub spelled-minus : (p : ℕ) → tokens_from 0 p (45 ∷ ds ++ ys) ≡ token 1 p (45 ∷ ds) ∷ tokens_from 0 (p + suc (length ds)) ys
  unfolding tokens_from is_gap any bytes list_of
  spelled-minus p =
      let n : 1 + length ds - 1 ≡ length ds = omega arith in
      let m : 1 + length ds ≡ suc (length ds) = omega arith in
      let q : p + 1 + length ds ≡ p + suc (length ds) = omega arith in
      rw (minus-length, minus-sort, n, m, take-append_seam ds ys, skipped (p + 1) ds ys, q)

-- a sign, and two dots
pub data Sign : ℕ → Type 0 where
  colon : Sign 58
  semicolon : Sign 59
  comma : Sign 44
  opening : Sign 40
  closing : Sign 41
  open_list : Sign 91
  close_list : Sign 93
  open_set : Sign 123
  close_set : Sign 125

pub spelled-sign : {c : ℕ} → Sign c → (p : ℕ) (ys : List ℕ) → tokens_from 0 p (c ∷ ys) ≡ token c p (c ∷ []) ∷ tokens_from 0 (p + 1) ys
unfolding tokens_from token_length sort_of starts_number starts_dots is_gap is_letter is_digit is_sign between any bytes list_of
spelled-sign colon p ys = refl
spelled-sign semicolon p ys = refl
spelled-sign comma p ys = refl
spelled-sign opening p ys = refl
spelled-sign closing p ys = refl
spelled-sign open_list p ys = refl
spelled-sign close_list p ys = refl
spelled-sign open_set p ys = refl
spelled-sign close_set p ys = refl

pub spelled_dots : (p : ℕ) (ys : List ℕ) → tokens_from 0 p (46 ∷ 46 ∷ ys) ≡ token 46 p (46 ∷ 46 ∷ []) ∷ tokens_from 0 (p + 1 + 1) ys
unfolding tokens_from token_length sort_of starts_number starts_dots is_gap is_letter is_digit is_sign between any bytes list_of front
spelled_dots p ys = refl

-- a blank or a line feed says nothing
pub spelled_blank : (p : ℕ) (ys : List ℕ) → tokens_from 0 p (32 ∷ ys) ≡ tokens_from 0 (p + 1) ys
unfolding tokens_from token_length starts_number starts_dots is_gap any bytes list_of is_letter is_digit between
spelled_blank p ys = refl

pub spelled-line : (p : ℕ) (ys : List ℕ) → tokens_from 0 p (10 ∷ ys) ≡ tokens_from 0 (p + 1) ys
unfolding tokens_from token_length starts_number starts_dots is_gap any bytes list_of is_letter is_digit between
spelled-line p ys = refl

-- a sign continues no name
pub ends-name : {c : ℕ} → Sign c → (ys : List ℕ) → in_name (front (c ∷ ys)) ≡ false
unfolding in_name is_letter is_digit between front
ends-name colon ys = refl
ends-name semicolon ys = refl
ends-name comma ys = refl
ends-name opening ys = refl
ends-name closing ys = refl
ends-name open_list ys = refl
ends-name close_list ys = refl
ends-name open_set ys = refl
ends-name close_set ys = refl

-- nor a number: digits continue names
pub no_digit : (b : ℕ) → in_name b ≡ false → is_digit b ≡ false
unfolding in_name
no_digit b h = by (is_letter b) (is_digit b) h
  where
    by : (l d : Bool) → (l || d || eqb b 95) ≡ false → d ≡ false
    by true d h = false-true (sym h)
    by false true h = h
    by false false h = refl

pub ends-number : {c : ℕ} → Sign c → (ys : List ℕ) → is_digit (front (c ∷ ys)) ≡ false
ends-number s ys = no_digit _ (ends-name s ys)
