-- Blocks as propositions: what it is that the values σ of the sources and α of a block's own auxiliaries make a block good.
-- The tests of specs/ say these propositions (`says-satisfied`).
use Rattle.std.proofs.Common.{◌≡◌, refl, List, [], ◌∷◌, zero, suc, ℤ, pos}
use Rattle.integers.specs.Number.{◌⊕◌, ◌⊗◌}
use Rattle.integers.specs.Terms.{Valuation, Term, sum}
use Rattle.integers.specs.declared.Bounds.{Bounds}
use Rattle.integers.proofs.Linear.{◌⊑◌}
use Rattle.integers.proofs.Tests.{Says, says-le, says-equal, In, All}
use Rattle.rowsystems.specs.Row.{Row, sum≤0, sum=0, product, satisfied}
use Rattle.rules.specs.Block.{Ref, source, aux, Block}

-- Σ coefficient × value, open: it computes at a list that is written out
abbrev pub dot : {X : Type 0} → (X → ℤ) → List (Term X) → ℤ
dot ρ [] = pos 0
dot ρ (t ∷ ts) = t.coefficient ⊗ ρ t.variable ⊕ dot ρ ts

pub sum-dot : {X : Type 0} (ρ : X → ℤ) (ts : List (Term X)) → sum ρ ts ≡ dot ρ ts
unfolding sum
sum-dot ρ [] = refl
sum-dot ρ (t ∷ ts) = rw (sum-dot ρ ts) refl

-- the row is satisfied
abbrev pub Sat : {X : Type 0} → (X → ℤ) → Row X → Type 0
Sat ρ (sum≤0 ts c) = dot ρ ts ⊕ c ⊑ pos 0
Sat ρ (sum=0 ts c) = dot ρ ts ⊕ c ≡ pos 0
Sat ρ (product r f g) = ρ r ≡ ρ f ⊗ ρ g

pub says-satisfied : {X : Type 0} (ρ : X → ℤ) (r : Row X) → Says (satisfied ρ r) (Sat ρ r)
unfolding satisfied
says-satisfied ρ (sum≤0 ts c) = rw (sum-dot ρ ts) (says-le (dot ρ ts ⊕ c) (pos 0))
says-satisfied ρ (sum=0 ts c) = rw (sum-dot ρ ts) (says-equal (dot ρ ts ⊕ c) (pos 0))
says-satisfied ρ (product r f g) = says-equal (ρ r) (ρ f ⊗ ρ g)

-- the value of a block's variable
abbrev pub see : Valuation → Valuation → Ref → ℤ
see σ α (source v) = σ v
see σ α (aux k) = α k

-- the values from 0 on, each with the list's element of its place
abbrev pub Each : {A : Type 0} → (A → ℤ → Type 0) → List A → Valuation → Type 0
Each P [] α = Unit {0}
Each P (x ∷ xs) α = P x (α zero) × Each P xs (λ k. α (suc k))

-- they keep the bounds
abbrev pub Keeps : List Bounds → Valuation → Type 0
Keeps Bs α = Each (λ B v. In B v) Bs α

-- they are those of the list
abbrev pub Are : List ℤ → Valuation → Type 0
Are xs α = Each (λ x v. v ≡ x) xs α

-- the auxiliaries keep their bounds, and every row and product is satisfied
abbrev pub Good : Block → Valuation → Valuation → Type 0
Good B σ α = Keeps B.auxiliaries α × All (Sat (see σ α)) B.rows
