-- Powers: the first one, and the product of two.
use Rattle.std.proofs.Common.{◌≡◌, sym, ap, ◌∙◌, ℕ, zero, suc, ◌+◌, arith, ℤ}
use Rattle.integers.specs.Number.{◌⊗◌}
use Rattle.integers.proofs.Sums.{⊗_assoc, one-times, times-one}
use Rattle.models.specs.Meaning.{power}

pub power-add : (x : ℤ) (m n : ℕ) → power x (m + n) ≡ power x m ⊗ power x n
unfolding power
power-add x zero n = let e : 0 + n ≡ n = omega arith in ap (power x) e ∙ sym (one-times (power x n))
power-add x (suc m) n =
    let e : suc m + n ≡ suc (m + n) = omega arith in
    ap (power x) e ∙ ap (λ p. x ⊗ p) (power-add x m n) ∙ sym (⊗_assoc x (power x m) (power x n))

pub power-one : (x : ℤ) → power x 1 ≡ x
unfolding power
power-one = times-one
