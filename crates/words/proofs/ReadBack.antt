-- A word gives back the kind, the payload and the number that it was made of; for proofs that what is written is what is read.
use Rattle.std.proofs.Common.{◌≡◌, refl, ◌∙◌, Bool, true, false, ℕ, ◌-◌, ◌*◌, ◌%◌, ◌≤◌, ◌<◌, arith, ltb, ℤ, pos, negsuc, nat_abs, w64, to_z, of_z, to_z-of_z, ltb-true, ltb-false, lt-ltb, le-ltb}
use Rattle.integers.specs.Choice.{◌if◌else◌}
use Rattle.integers.specs.Number.{◌⊗◌}
use Rattle.integers.specs.Bounds.{◌to◌}
use Rattle.integers.specs.declared.Bounds.{Bounds}
use Rattle.integers.proofs.Fits.{fits64, times-size, mul-le}
use Rattle.integers.proofs.Linear.{◌⊑◌, linear, arith_z}
use Rattle.integers.proofs.Tests.{Says, In, says-within}
use Rattle.words.specs.Word.{kind, payload, signed, in_range, too_low, word, complement, number_word}
use Rattle.words.specs.Limit as Limit
use Rattle.words.specs.Small.{Near}

-- the kind, by which a reader knows what a written word is
pub kind-word : (k p : ℕ) → kind (word k p) ≡ k
unfolding kind word
kind-word k p = omega arith

-- likewise of a word that holds a signed number
pub kind-number : (k : ℕ) (z : ℤ) → kind (number_word k z) ≡ k
unfolding number_word
kind-number k z = kind-word k (complement z)

-- the payload: a row's number of terms, or a variable's number
pub payload-word : (k p : ℕ) → p < 268435456 → payload (word k p) ≡ p
unfolding payload word
payload-word k p h = omega arith

-- no payload has more than 28 bits
pub payload-below : (w : ℕ) → payload w < 268435456
unfolding payload
payload-below w = omega arith

-- the test of the range as a proposition, for `omega arith_z`
pub says_range : (z : ℤ) → Says (in_range z) ((Limit.lowest ⊑ z) × (z ⊑ Limit.highest))
says_range z = says-within Limit.range z

-- the signed number: a bound, a coefficient or a constant, which check's 13 leaves in the range
pub signed-number : (k : ℕ) (z : ℤ) → in_range z ≡ true → signed (number_word k z) ≡ z
unfolding signed number_word complement
signed-number k (pos n) h =
    let r : n < Limit.half = omega (arith_z, ((says_range (pos n)).0 h).1) in
    let e : payload (word k (n % 268435456)) ≡ n = payload-word k _ (omega arith) ∙ omega arith in
    rw (e, lt-ltb n Limit.half r) refl
signed-number k (negsuc n) h =
    let r : n < Limit.half = omega (arith_z, ((says_range (negsuc n)).0 h).0) in
    let e : payload (word k (268435455 - n % 268435456)) ≡ 268435455 - n = payload-word k _ (omega arith) ∙ omega arith in
    let f : 268435455 - (268435455 - n) ≡ n = omega arith in
    rw (e, le-ltb (268435455 - n) Limit.half (omega arith), f) refl

-- 01, Words: "−134,217,728 to 134,217,727": all numbers of 28 bits, the range before 02
abbrev pub before : Bounds
before = negsuc 134217727 to Limit.highest

-- no signed payload is outside it
pub signed_in : (w : ℕ) → In before (signed w)
unfolding signed payload
signed_in w = by (ltb (w % 268435456) Limit.half) refl
  where
    by : (t : Bool) → ltb (w % 268435456) Limit.half ≡ t → In before (pos (w % 268435456) if t else negsuc (268435455 - w % 268435456))
    by true e = (omega arith_z, omega (arith_z, ltb-true))
    by false e = (omega (arith_z, ltb-false), omega arith_z)

-- so that fault 18 is never found there
pub never_too_low : (w : ℕ) → too_low before w ≡ false
unfolding too_low
never_too_low w = rw ((says-within before (signed w)).1 (signed_in w)) refl

-- and near to 0, as is what lies between two such numbers
pub between-near : (l x u : ℤ) → l ⊑ x → x ⊑ u → Near l → Near u → Near x
between-near = simp linear (omega arith)

pub signed-near : (w : ℕ) → Near (signed w)
signed-near w = between-near before.lower (signed w) before.upper (signed_in w).0 (signed_in w).1 (omega arith) (omega arith)

-- a number of the range is near to 0, and is read back
pub range-near : (z : ℤ) → in_range z ≡ true → Near z
range-near z e = between-near Limit.lowest z Limit.highest ((says_range z).0 e).0 ((says_range z).0 e).1 (omega arith) (omega arith)

pub near-back : (z : ℤ) → Near z → to_z w64 (of_z w64 z) ≡ z
near-back z h = to_z-of_z (fits64 z (omega arith))

-- products of such numbers
pub factors-fit : (a b : ℤ) → Near a → Near b → nat_abs a * nat_abs b ≤ 18014398509481984
factors-fit a b h k = omega (arith, mul-le h k)

pub product-size : (a b : ℤ) → Near a → Near b → nat_abs (a ⊗ b) ≤ 18014398509481984
product-size a b h k = omega (arith, times-size a b, factors-fit a b h k)
