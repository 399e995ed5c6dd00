-- A cut of a sum is right; lists in two parts.
use Rattle.std.proofs.Common.{◌≡◌, refl, sym, ap, ◌∙◌, subst, ◌↔◌, List, [], ◌∷◌, ◌++◌, ℕ, ◌<◌, arith, ℤ, length, length-append, take, drop}
use Rattle.std.proofs.lemmas.List.{take-append-drop}
use lib.ListN.{get_or-append}
use Rattle.integers.specs.Number.{◌⊕◌, ◌⊖◌, ◌⊗◌, min_z, max_z, +0, +1, -1}
use Rattle.integers.specs.Bounds.{bit, bounds_in}
use Rattle.integers.specs.Terms.{Valuation, Term, ◌·◌, sum}
use Rattle.integers.specs.declared.Bounds.{Bounds}
use Rattle.integers.proofs.Linear.{◌⊑◌, linear}
use Rattle.integers.proofs.Lists.{all_append, all_implies}
use Rattle.integers.proofs.Sums.{⊕_assoc, zero-plus}
use Rattle.integers.proofs.Tests.{In, All, says-equal}
use Rattle.models.specs.Builtin.{Builtin, int_lin_eq}
use Rattle.models.specs.Meaning.{meaning}
use Rattle.models.proofs.Arguments.{integer_arguments, boolean_arguments, variables_in}
use Rattle.rules.specs.Parts.{extreme, L, U}
use Rattle.sharing.proofs.Good.{Keeps}
use Rattle.sharing.proofs.Satisfied.{keeps-bounds}
use Rattle.sharing.proofs.Sums.{sum_kept}
use Rattle.flatsplitting.specs.Split.{cut_sum}
use Rattle.flatzinc.proofs.Agreeing.{Typed, summed}
use Rattle.flatsplitting.proofs.Splitting.{Cuts, Below}
use Rattle.flatzinc.proofs.Solved.{AllTrue}

-- ---- lists in two parts

sum_append : (σ : Valuation) (xs ys : List (Term ℕ)) → sum σ (xs ++ ys) ≡ sum σ xs ⊕ sum σ ys
unfolding sum
sum_append σ [] ys = sym (zero-plus _)
sum_append σ (t ∷ xs) ys = ap (λ s. t.coefficient ⊗ σ t.variable ⊕ s) (sum_append σ xs ys) ∙ sym (⊕_assoc _ _ _)

variables_append : (xs ys : List (Term ℕ)) → variables_in (xs ++ ys) ≡ variables_in xs ++ variables_in ys
variables_append [] ys = refl
variables_append (t ∷ xs) ys = ap (λ vs. t.variable ∷ vs) (variables_append xs ys)

pub all-parts : {A : Type 0} (P : A → Type 0) (k : ℕ) (xs : List A) → All P xs → All P (take k xs) × All P (drop k xs)
all-parts P k xs h = (all_append P (take k xs) (drop k xs)).0 (subst (All P) (sym (take-append-drop k xs)) h)

terms_parts : (P : ℕ → Type 0) (k : ℕ) (ts : List (Term ℕ)) → All P (variables_in ts) → All P (variables_in (take k ts)) × All P (variables_in (drop k ts))
terms_parts P k ts h =
    (all_append P (variables_in (take k ts)) (variables_in (drop k ts))).0
    (subst (All P) (ap variables_in (sym (take-append-drop k ts)) ∙ variables_append (take k ts) (drop k ts)) h)

terms_more : (P : ℕ → Type 0) (ts us : List (Term ℕ)) → All P (variables_in ts) → All P (variables_in us) → All P (variables_in (ts ++ us))
terms_more P ts us h k = subst (All P) (sym (variables_append ts us)) ((all_append P (variables_in ts) (variables_in us)).1 (h, k))

-- ---- declared variables, and one more

module _ (Bs : List Bounds) (B : Bounds) where
  abbrev Cs : List Bounds
  Cs = Bs ++ B ∷ []

  pub older : (v : ℕ) → v < length Bs → v < length Cs
  older v l = let k = length-append Bs (B ∷ []) in omega arith

  pub newest : length Bs < length Cs
  newest = let k = length-append Bs (B ∷ []) in omega arith

-- ---- a sum

-- a builtin of one list of terms, of which it reads the sum alone
pub record OfSum (make : List (Term ℕ) → Builtin) : Type 0 where
  pub by_sum : (τ : Valuation) (us ts : List (Term ℕ)) → sum τ us ≡ sum τ ts → meaning τ (make us) ≡ meaning τ (make ts)
  pub integers : (us : List (Term ℕ)) → integer_arguments (make us) ≡ variables_in us
  pub booleans : (us ts : List (Term ℕ)) → boolean_arguments (make us) ≡ boolean_arguments (make ts)

within_ends : (l x u : ℤ) → l ⊖ +0 ⊑ x ⊖ +0 → x ⊖ +0 ⊑ u ⊖ +0 → (l ⊑ x) × (x ⊑ u)
within_ends = simp linear (omega arith)

links : (s x : ℤ) → (s ⊕ (-1 ⊗ x ⊕ +0) ≡ +0) ↔ (x ≡ s)
links = simp linear (omega arith)

adds : (s d x : ℤ) → x ≡ s → d ⊕ (+1 ⊗ x ⊕ +0) ≡ s ⊕ d
adds = simp linear (omega arith)

module _ (Bs : List Bounds) (k : ℕ) (ts : List (Term ℕ)) (make : List (Term ℕ) → Builtin) (o : OfSum make) (typed : Typed Bs (make ts)) where
  abbrev n : ℕ
  n = length Bs

  abbrev first : List (Term ℕ)
  first = take k ts

  abbrev part_bounds : Bounds
  part_bounds = (cut_sum Bs k ts make).part

  declared : All (λ v. v < n) (variables_in ts)
  declared = subst (All (λ v. v < n)) (o.integers ts) typed.0

  declared-parts : All (λ v. v < n) (variables_in first) × All (λ v. v < n) (variables_in (drop k ts))
  declared-parts = terms_parts (λ v. v < n) k ts declared

  longer : (us vs : List (Term ℕ)) → All (λ v. v < n) (variables_in us) → All (λ v. v < length (Bs ++ part_bounds ∷ [])) (variables_in vs) →
      All (λ v. v < length (Bs ++ part_bounds ∷ [])) (variables_in (us ++ vs))
  longer us vs h j =
      terms_more (λ v. v < length (Bs ++ part_bounds ∷ [])) us vs
      (all_implies (λ v. v < n) (λ v. v < length (Bs ++ part_bounds ∷ [])) (older Bs part_bounds) (variables_in us) h) j

  sum_inside : (σ : Valuation) → Keeps Bs σ → In part_bounds (sum σ first)
  unfolding cut_sum L U
  sum_inside σ h =
      let s = sum_kept (bounds_in Bs) σ first +0 (all_implies (λ v. v < n) (λ v. In (bounds_in Bs v) (σ v)) ((keeps-bounds Bs σ).0 h) (variables_in first) declared-parts.0) in
      within_ends (extreme min_z (bounds_in Bs) first) (sum σ first) (extreme max_z (bounds_in Bs) first) s.0 s.1

  sum-same : (σ τ : Valuation) → Below n σ τ → sum σ first ≡ sum τ first
  sum-same σ τ e = summed σ τ first (all_implies (λ v. v < n) (λ v. σ v ≡ τ v) e (variables_in first) declared-parts.0)

  sum-defined : (τ : Valuation) → AllTrue (int_lin_eq (first ++ (-1 · n) ∷ []) +0 ∷ []) τ ↔ (τ n ≡ sum τ first)
  unfolding meaning sum
  sum-defined τ =
      let e = sum_append τ first ((-1 · n) ∷ []) in
      let s = says-equal (sum τ (first ++ (-1 · n) ∷ [])) +0 in
      let l = links (sum τ first) (τ n) in
      (λ h. l.0 (sym e ∙ s.0 h.0), λ h. (s.1 (e ∙ l.1 h), tt))

  sum-rest : (τ : Valuation) → τ n ≡ sum τ first → meaning τ (make (drop k ts ++ (+1 · n) ∷ [])) ≡ meaning τ (make ts)
  unfolding sum
  sum-rest τ h =
      o.by_sum τ (drop k ts ++ (+1 · n) ∷ []) ts
      (sum_append τ (drop k ts) ((+1 · n) ∷ []) ∙ adds (sum τ first) (sum τ (drop k ts)) (τ n) h ∙ sym (sum_append τ first (drop k ts)) ∙ ap (sum τ) (take-append-drop k ts))

  typed_sum : All (Typed (Bs ++ part_bounds ∷ [])) (int_lin_eq (first ++ (-1 · n) ∷ []) +0 ∷ [])
  unfolding integer_arguments boolean_arguments
  typed_sum = ((longer first ((-1 · n) ∷ []) declared-parts.0 (newest Bs part_bounds, tt), tt), tt)

  typed-rest_sum : Typed (Bs ++ part_bounds ∷ []) (make (drop k ts ++ (+1 · n) ∷ []))
  unfolding bounds_in
  typed-rest_sum =
      let us = drop k ts ++ (+1 · n) ∷ [] in (
        subst (All (λ v. v < length (Bs ++ part_bounds ∷ []))) (sym (o.integers us)) (longer (drop k ts) ((+1 · n) ∷ []) declared-parts.1 (newest Bs part_bounds, tt)),
        subst (All (λ v. (v < length (Bs ++ part_bounds ∷ [])) × (bounds_in (Bs ++ part_bounds ∷ []) v ≡ bit))) (o.booleans ts us)
            (all_implies (λ v. (v < n) × (bounds_in Bs v ≡ bit)) (λ v. (v < length (Bs ++ part_bounds ∷ [])) × (bounds_in (Bs ++ part_bounds ∷ []) v ≡ bit))
            (λ v h. (older Bs part_bounds v h.0, get_or-append Bs (part_bounds ∷ []) _ v h.0 ∙ h.1)) (boolean_arguments (make ts)) typed.1),
      )

  pub sum_right : Cuts Bs (make ts) (cut_sum Bs k ts make)
  unfolding cut_sum
  sum_right = record {
    value_of = λ σ. sum σ first;
    stays = sum-same;
    inside = sum_inside;
    defined = λ τ h i. sum-defined τ;
    rest = λ τ h e. sum-rest τ e;
    typed_defining = typed_sum;
    typed_rest = typed-rest_sum;
  }
