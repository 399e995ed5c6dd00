-- What the machine's shift and its signed numbers are for kinds and payloads: for the proofs of the functions on words.
use Rattle.std.proofs.Common.{◌≡◌, refl, ap, sym, ◌∙◌, true, false, ℕ, suc, ◌+◌, ◌-◌, ◌*◌, ◌%◌, ◌≤◌, ◌<◌, arith, ℤ, pos, negsuc, ◌-ℤ◌, w32, w64, to_z, lt-ltb, le-ltb}
use lib.Dec.{leb-zero}
use lib.Signed.{le_z, mag}
use mir.Syntax.{unsigned, shr}
use mir.Val.{vint, op2_val}
use mir.Facts.{to_z_pos}
use Rattle.std.specs.Int.{int_rem_euclid}
use Rattle.words.specs.Word.{kind, complement}
use Rattle.integers.proofs.Tests.{false-true}

-- 02, Wish 4: for every 32-bit word the machine's shift by 28 "is the word over 268,435,456, rounded down", its kind
pub shift-kind : (w : ℕ) → op2_val (shr unsigned) (vint w32 w) (vint w32 28) ≡ vint w32 (kind w)
unfolding kind
shift-kind w = refl

-- rounded down: the word has 268,435,456 that many times and not once more
pub kind_rounds : (w : ℕ) → (kind w * 268435456 ≤ w) × (w < (kind w + 1) * 268435456)
unfolding kind
kind_rounds w = (omega arith, omega arith)

-- a payload less 2^28
pub less : (p : ℕ) → p < 268435456 → to_z w64 p -ℤ pos 268435456 ≡ negsuc (268435455 - p)
less p k = rw (to_z_pos w64 {n = p} (omega arith)) (simp (lt-ltb p 268435456 k) (ap negsuc (omega arith)))

-- a number that is not negative, and how far a negative one is below −1
pub from_zero : (z : ℤ) → le_z (pos 0) z ≡ true → z ≡ pos (mag z)
from_zero (pos n) t = refl
from_zero (negsuc n) t = false-true t

pub below-zero : (z : ℤ) → le_z (pos 0) z ≡ false → negsuc 0 -ℤ z ≡ pos (mag z)
below-zero (pos n) t = false-true (sym t ∙ leb-zero n)
below-zero (negsuc n) t = simp (le-ltb (suc n) 1 (omega arith)) (let e : suc n - 1 ≡ n = omega arith in ap pos e)

-- and their payloads
pub complement-from : (z : ℤ) → le_z (pos 0) z ≡ true → complement z ≡ mag z % 268435456
unfolding complement
complement-from (pos n) t = refl
complement-from (negsuc n) t = false-true t

pub complement-below : (z : ℤ) → le_z (pos 0) z ≡ false → complement z ≡ 268435455 - mag z % 268435456
unfolding complement
complement-below (pos n) t = false-true (sym t ∙ leb-zero n)
complement-below (negsuc n) t = refl

-- the payload of a number is what 2^28 leaves of it, which is not negative
pub euclid_complement : (z : ℤ) → int_rem_euclid z (pos 268435456) ≡ pos (complement z)
unfolding complement
euclid_complement (pos n) = refl
euclid_complement (negsuc n) = refl
