-- Of the source values and fill's picks: every row of a block whose builtin is true holds, whichever blocks its bits are of. So a row that fails of
-- other auxiliaries names one whose value is not fill's.
use Rattle.std.proofs.Common.{◌≡◌, refl, sym, ap₂, ◌∙◌, subst, Bool, true, false, not, ◌&&◌, List, [], ◌∷◌, ◌++◌, map, ℕ, ◌+◌, ◌<◌, ltb, ℤ, pos, length, ltb-true}
use Rattle.integers.specs.Number.{◌⊕◌, ◌⊗◌, ◌≟◌}
use Rattle.integers.specs.Lists.{any}
use Rattle.integers.specs.Terms.{Valuation, Term, value}
use Rattle.integers.specs.declared.Bounds.{Bounds}
use Rattle.integers.proofs.Linear.{◌⊑◌}
use Rattle.integers.proofs.Tests.{says-equal, All, false-true}
use Rattle.integers.proofs.Booleans.{neither}
use Rattle.models.specs.Model.{Constraint, builtin}
use Rattle.models.specs.Meaning.{meaning}
use Rattle.rowsystems.specs.Row.{Row, sum≤0, sum=0, product, satisfied}
use Rattle.rules.specs.Shared.{Encoded}
use Rattle.rules.specs.Translation.{block_of, each_block}
use Rattle.sharing.proofs.Good.{dot, Sat, says-satisfied}
use Rattle.sharing.proofs.OneHot.{From}
use Rattle.sharing.proofs.Encoding.{Held}
use Rattle.sharing.proofs.Choices.{view}
use Rattle.sharing.proofs.Assembly.{Plain, AllFit, AllFormed, after, picks_from, picks-split, one-complete, one-held}
use Rattle.reasons.specs.Reason.{Explained}
use Rattle.reasons.specs.Behind.{row_variables}
use Rattle.reasons.proofs.Judged.{explained_from}

-- ---- the picks

-- the rows hold where the builtin is true
abbrev pub Holds : Valuation → Valuation → Explained → Type 0
Holds σ ρ x = meaning σ (builtin x.constraint) ≡ true → All (Sat ρ) x.rows

module _ (β : ℕ → Bounds) (s : ℕ → Bool) (n : ℕ) (ρ σ : Valuation) (same : (v : ℕ) → v < n → ρ v ≡ σ v) where
  pub picks_hold : (first : ℕ) (e : Encoded) (cs : List Constraint) → All (Plain β n) cs → AllFormed β s first e cs → AllFit β σ cs → Held β ρ e → (rest : List ℤ) →
      From first ρ (value (picks_from β s σ first e cs ++ rest)) → All (Holds σ ρ) (explained_from β s first e cs)
  unfolding each_block block_of
  picks_hold first e [] p f t h rest a = tt
  picks_hold first e (c ∷ cs) p f t h rest a =
      let l = length (block_of β s e c).auxiliaries in
      let next = after β s first e c in
      let more = picks_from β s σ (first + l) next cs ++ rest in
      let q = picks-split β s σ ρ first e c cs rest a in
      let held = one-held β s n first e ρ σ same h (view c) p.0.0 p.0.1 p.0.2 t.0 more q.0 in (
        λ m. (one-complete β s n first e ρ σ same h (view c) p.0.0 p.0.1 p.0.2 t.0 f.0 more q.0 m).1,
        picks_hold (first + l) next cs p.1 f.1 t.1 held rest q.1,
      )

-- ---- values that agree on the variables of a row

module _ (ρ τ : Valuation) where
  abbrev Same : ℕ → Type 0
  Same x = ρ x ≡ τ x

  dot-same : (ts : List (Term ℕ)) → All Same (map (λ t. t.variable) ts) → dot ρ ts ≡ dot τ ts
  dot-same [] h = refl
  dot-same (t ∷ ts) h = ap₂ (λ x y. t.coefficient ⊗ x ⊕ y) h.0 (dot-same ts h.1)

  row_same : (r : Row ℕ) → All Same (row_variables r) → Sat τ r → Sat ρ r
  row_same (sum≤0 ts c) h s = subst (λ d. d ⊕ c ⊑ pos 0) (sym (dot-same ts h)) s
  row_same (sum=0 ts c) h s = subst (λ d. d ⊕ c ≡ pos 0) (sym (dot-same ts h)) s
  row_same (product r f g) h s = h.0 ∙ s ∙ ap₂ ◌⊗◌ (sym h.1.0) (sym h.1.1.0)

-- ---- no auxiliary of the row differs

module _ (n : ℕ) (ρ τ : Valuation) (before : (v : ℕ) → v < n → ρ v ≡ τ v) where
  abbrev differs : ℕ → Bool
  differs x = not (ltb x n) && not (ρ x ≟ τ x)

  one_same : (x : ℕ) → differs x ≡ false → ρ x ≡ τ x
  one_same x = go (ltb x n) refl (ρ x ≟ τ x) (says-equal (ρ x) (τ x)).0
    where
      go : (s : Bool) → ltb x n ≡ s → (u : Bool) → (u ≡ true → ρ x ≡ τ x) → (not s && not u) ≡ false → ρ x ≡ τ x
      go true e u k h = before x (ltb-true x n e)
      go false e true k h = k refl
      go false e false k h = false-true (sym h)

  all_same : (xs : List ℕ) → any differs xs ≡ false → All (λ x. ρ x ≡ τ x) xs
  unfolding any
  all_same [] d = tt
  all_same (x ∷ xs) d = let e = neither _ _ d in (one_same x e.0, all_same xs e.1)

  -- a row that fails of ρ and holds of τ
  pub one-differs : (row : Row ℕ) → satisfied ρ row ≡ false → Sat τ row → any (λ x. not (ltb x n) && not (ρ x ≟ τ x)) (row_variables row) ≡ true
  one-differs row fails holds = go (any differs (row_variables row)) refl
    where
      go : (b : Bool) → any differs (row_variables row) ≡ b → b ≡ true
      go true e = refl
      go false e = absurd (false-true (sym fails ∙ (says-satisfied ρ row).1 (row_same ρ τ row (all_same (row_variables row) e) holds)))
