-- Lists of values that keep bounds and of which builtins are true.
use Rattle.std.proofs.Common.{◌≡◌, subst, ◌↔◌, true, List, ℤ, length}
use Rattle.integers.specs.Terms.{Valuation, value}
use Rattle.integers.specs.declared.Bounds.{Bounds}
use Rattle.integers.proofs.Tests.{All}
use Rattle.models.specs.Builtin.{Builtin}
use Rattle.models.specs.Meaning.{meaning}
use Rattle.sharing.proofs.Good.{Keeps}

abbrev pub True : Valuation → Builtin → Type 0
True σ b = meaning σ b ≡ true

abbrev pub AllTrue : List Builtin → Valuation → Type 0
AllTrue bs σ = All (True σ) bs

-- lists that keep bounds and of whose values K holds

abbrev pub Sol : List Bounds → (Valuation → Type 0) → List ℤ → Type 0
Sol Bs K vs = (length vs ≡ length Bs) × Keeps Bs (value vs) × K (value vs)

pub sol_as : {Bs Cs : List Bounds} (K L : Valuation → Type 0) → Bs ≡ Cs → ((σ : Valuation) → K σ ↔ L σ) → (vs : List ℤ) → Sol Bs K vs ↔ Sol Cs L vs
sol_as {Bs} {Cs} K L e l vs =
    subst (λ (Ds : List Bounds). Sol Bs K vs ↔ Sol Ds L vs) e (λ s. (s.0, s.1, (l (value vs)).0 s.2), λ s. (s.0, s.1, (l (value vs)).1 s.2))
