-- The loop writes a bound in each turn, whatever the numbers are.
use Rattle.std.proofs.Common.{◌≡◌, ℕ, ℤ, ◌<◌, [], ◌∷◌}
use Rattle.laying.specs.Part.{bound}
use Rattle.laying.proofs.Written.{Writing}
use Rattle.laying.proofs.Writer.bounds.Given as goal

abbrev pub invariant-loop-k : goal.invariant-loop-k
invariant-loop-k g l =
    ((c : ℕ → ℤ) (v : ℕ → ℤ) → ((k : ℕ) (r : ℤ) → k < l.n → goal.L-post g l.lower k r → r ≡ c k) → ((k : ℕ) (r : ℤ) → k < l.n → goal.U-post g l.upper k r → r ≡ v k) →
    Writing (λ k. bound (c k) (v k) ∷ []) l.initial.writer l.writer l.k)
