-- The loop writes a term in each turn, whatever the coefficients and variables are.
use Rattle.std.proofs.Common.{◌≡◌, ℕ, ℤ, ◌<◌, [], ◌∷◌}
use Rattle.laying.specs.Part.{term}
use Rattle.laying.proofs.Written.{Writing}
use Rattle.laying.proofs.Writer.terms.Given as goal

abbrev pub invariant-loop-k : goal.invariant-loop-k
invariant-loop-k g l =
    ((c : ℕ → ℤ) (v : ℕ → ℕ) → ((k : ℕ) (r : ℤ) → k < l.n → goal.C-post g l.coefficient k r → r ≡ c k) → ((k r : ℕ) → k < l.n → goal.V-post g l.variable k r → r ≡ v k) →
    Writing (λ k. term (c k) (v k) ∷ []) l.initial.writer l.writer l.k)
