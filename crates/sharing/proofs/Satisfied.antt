-- What it is that a list satisfies a model or a row system, as bounds that are kept and propositions that hold.
use Rattle.std.proofs.Common.{◌≡◌, subst, ◌↔◌, Bool, List, [], ◌∷◌, ℕ, zero, suc, ◌<◌, arith, le_of_suc-le-suc, not-suc-le-zero, ℤ, length}
use Rattle.integers.specs.Bounds.{bounds_in}
use Rattle.integers.specs.Terms.{Valuation, value}
use Rattle.integers.specs.declared.Bounds.{Bounds}
use Rattle.integers.proofs.Tests.{Says, says_all, says-within, In, All}
use Rattle.sharing.specs.SharedSolutions.{Satisfies}
use Rattle.sharing.proofs.Good.{Keeps}

-- ---- bounds, by place and one after another

keeps-at : (Bs : List Bounds) (α : Valuation) → Keeps Bs α → (v : ℕ) → v < length Bs → In (bounds_in Bs v) (α v)
unfolding bounds_in
keeps-at [] α h v l = absurd (not-suc-le-zero l)
keeps-at (B ∷ Bs) α h zero l = h.0
keeps-at (B ∷ Bs) α h (suc v) l = keeps-at Bs (λ k. α (suc k)) h.1 v (le_of_suc-le-suc l)

at-keeps : (Bs : List Bounds) (α : Valuation) → ((v : ℕ) → v < length Bs → In (bounds_in Bs v) (α v)) → Keeps Bs α
unfolding bounds_in
at-keeps [] α f = tt
at-keeps (B ∷ Bs) α f = (f zero (omega arith), at-keeps Bs (λ k. α (suc k)) (λ v l. f (suc v) (omega arith)))

pub keeps-bounds : (Bs : List Bounds) (α : Valuation) → Keeps Bs α ↔ ((v : ℕ) → v < length Bs → In (bounds_in Bs v) (α v))
keeps-bounds Bs α = (keeps-at Bs α, at-keeps Bs α)

-- values that agree keep the same bounds
pub keeps-agree : (Bs : List Bounds) (α γ : Valuation) → ((v : ℕ) → v < length Bs → α v ≡ γ v) → Keeps Bs α → Keeps Bs γ
keeps-agree Bs α γ e h = at-keeps Bs γ (λ v l. subst (In (bounds_in Bs v)) (e v l) (keeps-at Bs α h v l))

-- ---- the record

module _ {A : Type 0} (Bs : List Bounds) (t : A → Bool) (P : A → Type 0) (says : (x : A) → Says (t x) (P x)) (xs : List A) (vs : List ℤ) where
  pub satisfies : Satisfies Bs t xs vs ↔ ((length vs ≡ length Bs) × Keeps Bs (value vs) × All P xs)
  satisfies = (
    λ s. (s.one_each, at-keeps Bs (value vs) (λ v l. (says-within (bounds_in Bs v) (value vs v)).0 (s.in_bounds v l)), (says_all t P says xs).0 s.all_true),
    λ h. record {
      one_each = h.0;
      in_bounds = λ v l. (says-within (bounds_in Bs v) (value vs v)).1 (keeps-at Bs (value vs) h.1 v l);
      all_true = (says_all t P says xs).1 h.2;
    },
  )
