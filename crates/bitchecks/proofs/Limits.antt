-- Numbers of a row over bits within their limit.
use Rattle.std.proofs.Common.{◌≡◌, refl, Bool, ℤ, pos, negsuc, leb}
use Rattle.std.specs.Prelude.{unsigned_abs}
use lib.Signed.{le_z}
use Rattle.integers.specs.Number.{abs_z}
use Rattle.words.specs.Limit as Limit

abbrev pub fits : ℤ → Bool
fits v = le_z (abs_z v) (pos Limit.bit_numbers)

-- by the absolute value, which the library gives without a sign
pub by_size : (v : ℤ) → leb (unsigned_abs v) 16384 ≡ fits v
unfolding abs_z
by_size (pos n) = refl
by_size (negsuc n) = refl
