-- A block whose auxiliaries are numbered on from the variables before it means what it meant by itself.
use Rattle.std.proofs.Common.{◌≡◌, refl, sym, ap₂, ◌∙◌, subst, ◌↔◌, List, [], ◌∷◌, map, ℕ, suc, ◌+◌, ◌<◌, arith, ℤ, pos}
use Rattle.integers.specs.Number.{◌⊕◌, ◌⊗◌}
use Rattle.integers.specs.Terms.{Valuation, Term}
use Rattle.integers.proofs.Linear.{◌⊑◌}
use Rattle.integers.proofs.Tests.{All}
use Rattle.rowsystems.specs.Row.{Row, sum≤0, sum=0, product, rename_terms, rename}
use Rattle.rules.specs.Block.{Ref, source, aux, numbered}
use Rattle.sharing.proofs.Good.{dot, Sat, see}
use Rattle.sharing.proofs.Formed.{RefIn, RowIn}

-- two valuations of any variables that agree on a row's variables
module _ {X Y : Type 0} (f : X → Y) (ρ : Y → ℤ) (θ : X → ℤ) where
  dot-agree : (ts : List (Term X)) → All (λ t. ρ (f t.variable) ≡ θ t.variable) ts → dot ρ (rename_terms f ts) ≡ dot θ ts
  unfolding rename_terms
  dot-agree [] h = refl
  dot-agree (t ∷ ts) h = ap₂ (λ x y. t.coefficient ⊗ x ⊕ y) h.0 (dot-agree ts h.1)

-- ρ is σ below n, and α from `first` on
pub record Agrees (n first : ℕ) (ρ σ α : Valuation) : Type 0 where
  pub before : (v : ℕ) → v < n → ρ v ≡ σ v
  pub after : (k : ℕ) → ρ (first + k) ≡ α k

module _ {n first : ℕ} {ρ σ α : Valuation} (a : Agrees n first ρ σ α) where
  ref_agree : (m : ℕ) (r : Ref) → RefIn n m r → ρ (numbered first r) ≡ see σ α r
  unfolding numbered
  ref_agree m (source v) h = a.before v h
  ref_agree m (aux k) h = a.after k

  terms-agree : (m : ℕ) (ts : List (Term Ref)) → All (λ t. RefIn n m t.variable) ts → All (λ t. ρ (numbered first t.variable) ≡ see σ α t.variable) ts
  terms-agree m [] h = tt
  terms-agree m (t ∷ ts) h = (ref_agree m t.variable h.0, terms-agree m ts h.1)

  sum-agree : (m : ℕ) (ts : List (Term Ref)) → All (λ t. RefIn n m t.variable) ts → dot ρ (rename_terms (numbered first) ts) ≡ dot (see σ α) ts
  sum-agree m ts h = dot-agree (numbered first) ρ (see σ α) ts (terms-agree m ts h)

  row-agree : (m : ℕ) (r : Row Ref) → RowIn n m r → Sat ρ (rename (numbered first) r) ↔ Sat (see σ α) r
  unfolding rename
  row-agree m (sum≤0 ts c) h = let e = sum-agree m ts h.1 in (λ s. subst (λ d. d ⊕ c ⊑ pos 0) e s, λ s. subst (λ d. d ⊕ c ⊑ pos 0) (sym e) s)
  row-agree m (sum=0 ts c) h = let e = sum-agree m ts h.1 in (λ s. subst (λ d. d ⊕ c ≡ pos 0) e s, λ s. subst (λ d. d ⊕ c ≡ pos 0) (sym e) s)
  row-agree m (product (source v) f g) h = absurd h
  row-agree m (product (aux k) f g) h =
      let r = ref_agree (suc k) (aux k) (omega arith) in
      let p = ref_agree k f h.1 in
      let q = ref_agree k g h.2 in
      (λ s. sym r ∙ s ∙ ap₂ ◌⊗◌ p q, λ s. r ∙ s ∙ ap₂ ◌⊗◌ (sym p) (sym q))

  pub rows_agree : (m : ℕ) (rs : List (Row Ref)) → All (RowIn n m) rs → All (Sat ρ) (map (rename (numbered first)) rs) ↔ All (Sat (see σ α)) rs
  rows_agree m [] h = (λ u. u, λ u. u)
  rows_agree m (r ∷ rs) h =
      let p = row-agree m r h.0 in
      let q = rows_agree m rs h.1 in
      (λ s. (p.0 s.0, q.0 s.1), λ s. (p.1 s.0, q.1 s.1))
