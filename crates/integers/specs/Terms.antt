-- Terms, their sums, and the values of variables.
use Rattle.std.specs.Prelude.{List, [], ◌∷◌, ℕ, ℤ, get_or}
use Rattle.integers.specs.Number.{◌⊕◌, ◌⊗◌, +0}

-- the value of each variable, by its number
abbrev pub Valuation : Type 0
Valuation = ℕ → ℤ

-- of a list of values; 0 past its end
unfoldable pub value : List ℤ → Valuation
value vs x = get_or vs x +0

-- coefficient × variable
pub record Term (X : Type 0) : Type 0 where
  pub coefficient : ℤ
  pub variable : X

infix 90 ◌·◌
abbrev pub ◌·◌ : {X : Type 0} → ℤ → X → Term X
c · x = record { coefficient = c; variable = x }

-- Σ coefficient × value
unfoldable pub sum : {X : Type 0} → (X → ℤ) → List (Term X) → ℤ
sum σ [] = +0
sum σ (t ∷ ts) = t.coefficient ⊗ σ t.variable ⊕ sum σ ts
