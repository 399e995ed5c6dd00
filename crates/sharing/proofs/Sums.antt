-- Σ as×bs over source variables: what it is in a row, and that Σ − c stays between L and U.
use Rattle.std.proofs.Common.{◌≡◌, refl, ap, ◌∙◌, sym, ◌↔◌, List, [], ◌∷◌, ◌++◌, ℕ, arith, ℤ}
use Rattle.integers.specs.Number.{◌⊕◌, ◌⊖◌, ◌⊗◌, min_z, max_z}
use Rattle.integers.specs.Bounds.{◌to◌}
use Rattle.integers.specs.Terms.{Valuation, Term, sum}
use Rattle.integers.specs.declared.Bounds.{Bounds}
use Rattle.integers.proofs.Linear.{◌⊑◌, rep, linear, from₁}
use Rattle.integers.proofs.Product.{between}
use Rattle.integers.proofs.Tests.{In, All}
use Rattle.integers.proofs.Sums.{⊕_assoc, zero-plus}
use Rattle.models.proofs.Arguments.{variables_in}
use Rattle.rowsystems.specs.Row.{rename_terms}
use Rattle.rules.specs.Block.{Ref}
use Rattle.rules.specs.Parts.{extreme, L, U, sources}
use Rattle.rules.specs.Rule.{linked}
use Rattle.sharing.proofs.Good.{dot, Sat, see}

module _ (σ α : Valuation) where
  -- Σ as×bs and more terms
  pub dot-sources : (ts : List (Term ℕ)) (more : List (Term Ref)) → dot (see σ α) (sources ts ++ more) ≡ sum σ ts ⊕ dot (see σ α) more
  unfolding sources rename_terms sum
  dot-sources [] more = sym (zero-plus _)
  dot-sources (t ∷ ts) more = ap (λ s. t.coefficient ⊗ σ t.variable ⊕ s) (dot-sources ts more) ∙ sym (⊕_assoc _ _ _)

  -- Σ as×bs alone
  pub dot_sources_only : (ts : List (Term ℕ)) → dot (see σ α) (sources ts) ≡ sum σ ts
  unfolding sources rename_terms sum
  dot_sources_only [] = refl
  dot_sources_only (t ∷ ts) = ap (λ s. t.coefficient ⊗ σ t.variable ⊕ s) (dot_sources_only ts)

  -- 12 to 15: the row Σ−x−c=0 says that x is Σ − c
  pub linked-row : (β : ℕ → Bounds) (ts : List (Term ℕ)) (c : ℤ) → Sat (see σ α) (linked β ts c) ↔ (α 0 ≡ sum σ ts ⊖ c)
  unfolding linked
  linked-row β ts c = rw (dot-sources ts, rep (sum σ ts), rep c, rep (α 0)) (simp linear (omega arith))

module _ (β : ℕ → Bounds) (σ : Valuation) where
  -- a sum stays between the sums of the least and of the largest of its terms
  sum-between : (ts : List (Term ℕ)) → All (λ v. In (β v) (σ v)) (variables_in ts) → In (extreme min_z β ts to extreme max_z β ts) (sum σ ts)
  unfolding extreme sum
  sum-between [] h = simp linear (omega arith)
  sum-between (t ∷ ts) h =
      let b = between t.coefficient (σ t.variable) (β t.variable).lower (β t.variable).upper h.0.0 h.0.1 in
      let s = sum-between ts h.1 in
      (added _ _ _ _ b.0 s.0, added _ _ _ _ b.1 s.1)
    where
      added : (a b c d : ℤ) → a ⊑ b → c ⊑ d → a ⊕ c ⊑ b ⊕ d
      added = simp linear (omega arith)

  pub sum_kept : (ts : List (Term ℕ)) (c : ℤ) → All (λ v. In (β v) (σ v)) (variables_in ts) → In (L β ts c to U β ts c) (sum σ ts ⊖ c)
  unfolding L U
  sum_kept ts c h =
      from₁ (sum-between ts h) (rw (rep (extreme min_z β ts), rep (extreme max_z β ts), rep (sum σ ts), rep c) (simp linear (omega arith)))
