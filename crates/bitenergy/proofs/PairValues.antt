-- What a pair of bits and the bit of their product add, 0 or 1 for that bit.
use Rattle.std.proofs.Common.{◌≡◌, refl, ℕ, zero, suc, ◌+◌, ◌*◌, ◌-◌, ◌<◌, arith, ℤ, pos}
use Rattle.integers.specs.Number.{◌⊕◌, ◌⊖◌, ◌⊗◌, +2}

abbrev adds : ℕ → ℕ → ℕ → ℤ
adds u v t = pos 3 ⊗ pos t ⊕ pos u ⊗ pos v ⊖ +2 ⊗ pos u ⊗ pos t ⊖ +2 ⊗ pos v ⊗ pos t

pub pair_zero : (u v : ℕ) → u < 2 → v < 2 → pos (u * v) ≡ adds u v 0
unfolding ◌⊕◌ ◌⊖◌ ◌⊗◌
pair_zero zero zero h k = refl
pair_zero zero (suc zero) h k = refl
pair_zero (suc zero) zero h k = refl
pair_zero (suc zero) (suc zero) h k = refl
pair_zero (suc (suc u)) v h k = absurd (omega arith)
pair_zero zero (suc (suc v)) h k = absurd (omega arith)
pair_zero (suc zero) (suc (suc v)) h k = absurd (omega arith)

pub pair_one : (u v : ℕ) → u < 2 → v < 2 → pos (3 + u * v - 2 * u - 2 * v) ≡ adds u v 1
unfolding ◌⊕◌ ◌⊖◌ ◌⊗◌
pair_one zero zero h k = refl
pair_one zero (suc zero) h k = refl
pair_one (suc zero) zero h k = refl
pair_one (suc zero) (suc zero) h k = refl
pair_one (suc (suc u)) v h k = absurd (omega arith)
pair_one zero (suc (suc v)) h k = absurd (omega arith)
pair_one (suc zero) (suc (suc v)) h k = absurd (omega arith)
