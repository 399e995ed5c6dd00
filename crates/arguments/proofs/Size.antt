-- How large the arguments of a constraint are, and what is read back of them.
use Rattle.std.proofs.Common.{◌≡◌, ◌∙◌, List, arith, ℕ, ◌<◌, ◌≤◌, ℤ, w64, to_z, of_z}
use lib.Signed.{mag}
use Rattle.integers.specs.Number.{neg, max_z, abs_z}
use Rattle.integers.specs.Terms.{value}
use Rattle.integers.proofs.Tests.{capped}
use Rattle.integers.proofs.Fits.{back}
use Rattle.integers.proofs.Linear.{linear}
use Rattle.words.specs.Word.{word_at}
use Rattle.words.proofs.ReadBack.{signed-near}
use Rattle.words.specs.Small.{Near, Small}
use Rattle.models.specs.Model.{var, num, size, exponent_at}

-- a list has at most 32 elements
pub size-le : (ws : List ℕ) (i : ℕ) → size ws i ≤ 32
unfolding size
size-le ws i = capped (var ws i) 32 32 (omega arith)

-- an exponent is at most 27
pub exponent-le : (ws : List ℕ) (i : ℕ) → exponent_at ws i ≤ 27
unfolding exponent_at
exponent-le ws i = capped (var ws i) 27 27 (omega arith)

-- a number is at most 2^27, its product with a small value at most 2^54
pub num-size : (ws : List ℕ) (i : ℕ) → Near (num ws i)
unfolding num
num-size ws i = signed-near (word_at ws i)

-- a value of a small list
pub value-near : (vs : List ℤ) → Small vs → (x : ℕ) → Near (value vs x)
unfolding value
value-near vs small x = small x

-- an absolute value
pub abs-max : (x : ℤ) → max_z x (neg x) ≡ abs_z x
abs-max = simp linear (omega arith)

-- what a call gave, read back: `read c.f.type_inv c.f.ensures`
pub read : {z y : ℤ} → mag z < 9223372036854775808 → z ≡ y → to_z w64 (of_z w64 z) ≡ y
read {z} h e = back z h ∙ e
