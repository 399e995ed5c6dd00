-- A byte at a time: a text up to its closing quote, the number that digits spell.
use Rattle.std.proofs.Common.{◌≡◌, refl, ap, Bool, true, false, List, ◌∷◌, ℕ, ◌+◌, ◌-◌, ◌*◌, ◌^◌, ◌<◌, ◌≤◌, add-one, arith, drop-cons, ne_eqb, length, get_or, drop, drop_of_length-le, Option, Some, None}
use Rattle.std.specs.Prelude.{option_map}
use Rattle.std.proofs.Common.{lit<}
use Rattle.std.proofs.Math.Nat.{pow-suc, pow-le-pow_right}
use Rattle.flattokens.specs.Reading.{closes, escapes, text_length, digits_from}

pub front_at : (bs : List ℕ) (i : ℕ) → i < length bs → drop i bs ≡ get_or bs i 0 ∷ drop (i + 1) bs
front_at bs i l = rw (add-one i) (drop-cons bs i 0 l)

-- ---- texts

abbrev pub counted : ℕ → Option ℕ → Option ℕ
counted i = option_map (λ n. i + n)

pub counted-zero : (r : Option ℕ) → counted 0 r ≡ r
counted-zero (Some n) = ap Some (omega arith)
counted-zero None = refl

counted-more : (i : ℕ) (r : Option ℕ) → counted i (option_map (λ n. 1 + n) r) ≡ counted (i + 1) r
counted-more i (Some n) = ap Some (omega arith)
counted-more i None = refl

module _ (bs : List ℕ) (i : ℕ) (e : Bool) (inside : i < length bs) where
  pub text_none : get_or bs i 0 ≡ 10 → counted i (text_length e (drop i bs)) ≡ None
  unfolding text_length
  text_none h = rw (front_at bs i inside, h) refl

  pub text_ends : (get_or bs i 0 ≡ 10 → ⊥) → closes e (get_or bs i 0) ≡ true → counted i (text_length e (drop i bs)) ≡ Some (i + 1)
  unfolding text_length
  text_ends h k = rw (front_at bs i inside, ne_eqb _ _ h, k) refl

  pub text_goes_on : (get_or bs i 0 ≡ 10 → ⊥) → closes e (get_or bs i 0) ≡ false
      → counted i (text_length e (drop i bs)) ≡ counted (i + 1) (text_length (escapes e (get_or bs i 0)) (drop (i + 1) bs))
  unfolding text_length
  text_goes_on h k = rw (front_at bs i inside, ne_eqb _ _ h, k) (counted-more i _)

pub text_over : (bs : List ℕ) (i : ℕ) (e : Bool) → length bs ≤ i → counted i (text_length e (drop i bs)) ≡ None
unfolding text_length
text_over bs i e l = rw (drop_of_length-le bs l) refl

-- ---- digits

pub digits_on : (ds : List ℕ) (i n : ℕ) → i < length ds → digits_from n (drop i ds) ≡ digits_from (n * 10 + (get_or ds i 0 - 48)) (drop (i + 1) ds)
unfolding digits_from
digits_on ds i n l = ap (digits_from n) (front_at ds i l)

pub digits_over : (ds : List ℕ) (i n : ℕ) → length ds ≤ i → digits_from n (drop i ds) ≡ n
unfolding digits_from
digits_over ds i n l = ap (digits_from n) (drop_of_length-le ds l)

-- what 17 digits come to, the bytes being any
pub small : (n i : ℕ) → n + 23 ≤ 23 * 10 ^ i → i < 17 → n + 23 ≤ 23 * 10 ^ 16
small n i h l = omega (arith, pow-le-pow_right {n = 10} (lit< tt) {i = i} {j = 16} (omega arith), h)

pub larger : (n i d : ℕ) → n + 23 ≤ 23 * 10 ^ i → d ≤ 207 → n * 10 + d + 23 ≤ 23 * 10 ^ (i + 1)
larger n i d h k = omega (arith, ap (λ (j : ℕ). 10 ^ j) (add-one i), pow-suc 10 i, h, k)

pub at_most : (n i : ℕ) → n + 23 ≤ 23 * 10 ^ i → i ≤ 17 → n + 23 ≤ 23 * 10 ^ 17
at_most n i h l = omega (arith, pow-le-pow_right {n = 10} (lit< tt) {i = i} {j = 17} l, h)
