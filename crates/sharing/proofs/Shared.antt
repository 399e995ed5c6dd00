-- A list satisfies a model exactly where some auxiliaries make it satisfy rows that are the model's blocks, numbered on; the picks do, and no others.
use Rattle.std.proofs.Common.{◌≡◌, sym, ap₂, ◌∙◌, subst, ◌↔◌, Bool, true, List, [], ◌++◌, append-nil, ℕ, ◌+◌, ◌<◌, arith, ℤ, pos, length, length-append}
use mathlib.Core.Path.{fun_ext}
use lib.ListN.{get_or-append}
use Rattle.integers.specs.Bounds.{bit, bounds_in}
use Rattle.integers.specs.Terms.{Valuation, value}
use Rattle.integers.specs.declared.Bounds.{Bounds}
use Rattle.integers.proofs.Bits.{Bit, to-bit}
use Rattle.integers.proofs.Lists.{all_implies, all_both}
use Rattle.integers.proofs.Tests.{In, All}
use Rattle.integers.proofs.Places.{get_or-replicate_same}
use Rattle.words.specs.Limit as Limit
use Rattle.words.specs.Variables.{variables}
use Rattle.models.specs.Meaning.{meaning}
use Rattle.models.specs.Model.{Constraint, constraints, builtin}
use Rattle.models.proofs.Arguments.{integer_arguments, boolean_arguments}
use Rattle.rowsystems.specs.Row.{Row, satisfied}
use Rattle.rowsystems.specs.RowSystem.{rows}
use Rattle.rules.specs.Rule.{rule}
use Rattle.rules.specs.Shared.{first_of, none_yet}
use Rattle.sharing.specs.SharedSolutions.{SatisfiesModel, SatisfiesRows}
use Rattle.sharing.proofs.Good.{Sat, says-satisfied, Keeps, Are}
use Rattle.sharing.proofs.Fits.{Fits}
use Rattle.sharing.proofs.Formed.{Formed}
use Rattle.sharing.proofs.Gates.{keeps-append, are-value, from-append}
use Rattle.sharing.proofs.Numbering.{Agrees}
use Rattle.sharing.proofs.OneHot.{From}
use Rattle.sharing.proofs.Encoding.{Held}
use Rattle.sharing.proofs.Assembly.{auxiliaries_from, rows_from, picks_from, AllFormed, Plain, AllTrue, AllFit, picks-length, rows-only, rows-complete}
use Rattle.sharing.proofs.Satisfied.{keeps-bounds, keeps-agree, satisfies}

-- ---- values that keep the bounds fit every builtin

-- the variables of a builtin are declared, the Boolean ones with the bounds 0 and 1
abbrev pub Typed : List Bounds → Constraint → Type 0
Typed Vs c =
    All (λ v. v < length Vs) (integer_arguments (builtin c))
    × All (λ v. (v < length Vs) × (bounds_in Vs v ≡ bit)) (boolean_arguments (builtin c))

is-bit : (B : Bounds) (x : ℤ) → B ≡ bit → In B x → Bit x
is-bit B x e h = let k : In bit x = subst (λ C. In C x) e h in to-bit x k.0 k.1

pub fits : (Vs : List Bounds) (σ : Valuation) → Keeps Vs σ → (c : Constraint) → Typed Vs c → Fits (bounds_in Vs) σ (builtin c)
fits Vs σ h c t =
    let k = (keeps-bounds Vs σ).0 h in
    record {
      kept = all_implies (λ v. v < length Vs) (λ v. In (bounds_in Vs v) (σ v)) (λ v l. k v l) (integer_arguments (builtin c)) t.0;
      zero_one = all_implies (λ v. (v < length Vs) × (bounds_in Vs v ≡ bit)) (λ v. Bit (σ v)) (λ v l. is-bit (bounds_in Vs v) (σ v) l.1 (k v l.0)) (boolean_arguments (builtin c)) t.1;
    }

-- every builtin, where the model's constraints are typed
pub all_fit : (Vs : List Bounds) (cs : List Constraint) → All (Typed Vs) cs → (σ : Valuation) → Keeps Vs σ → AllFit (bounds_in Vs) σ cs
all_fit Vs cs typed σ h = all_implies (Typed Vs) (λ c. Fits (bounds_in Vs) σ (builtin c)) (fits Vs σ h) cs typed

pub all_plain : (Vs : List Bounds) (cs : List Constraint) → All (Typed Vs) cs → All (λ c. Formed (length Vs) (rule (bounds_in Vs) (builtin c))) cs → All (Plain (bounds_in Vs) (length Vs)) cs
all_plain Vs cs typed plain =
    let n = length Vs in
    all_implies (λ c. Typed Vs c × Formed n (rule (bounds_in Vs) (builtin c))) (Plain (bounds_in Vs) n)
    (λ c h. (h.0.0, all_implies (λ v. (v < n) × (bounds_in Vs v ≡ bit)) (λ v. v < n) (λ v k. k.0) (boolean_arguments (builtin c)) h.0.1, h.1)) cs
    (all_both (Typed Vs) (λ c. Formed n (rule (bounds_in Vs) (builtin c))) cs typed plain)

-- ---- the two lists one after the other

pub agrees : (n : ℕ) (vs xs : List ℤ) → length vs ≡ n → Agrees n n (value (vs ++ xs)) (value vs) (value xs)
unfolding value
agrees n vs xs e = record { before = λ v h. get_or-append vs xs (pos 0) v (subst (λ (m : ℕ). v < m) (sym e) h); after = from-append vs xs n e }

module _ (Vs As : List Bounds) (vs xs : List ℤ) (e : length vs ≡ length Vs) where
  abbrev A : Agrees (length Vs) (length Vs) (value (vs ++ xs)) (value vs) (value xs)
  A = agrees (length Vs) vs xs e

  both-kept : Keeps (Vs ++ As) (value (vs ++ xs)) ↔ (Keeps Vs (value vs) × Keeps As (value xs))
  both-kept =
      let k = keeps-append Vs As (value (vs ++ xs)) (value xs) A.after in (
        λ h. (keeps-agree Vs (value (vs ++ xs)) (value vs) A.before (k.0 h).0, (k.0 h).1),
        λ h. k.1 (keeps-agree Vs (value vs) (value (vs ++ xs)) (λ v l. sym (A.before v l)) h.0, h.1),
      )

left-length : (a b m n : ℕ) → a + b ≡ m + n → b ≡ n → a ≡ m
left-length a b m n e f = omega arith

-- nothing is recorded at first
pub none_first : (x : ℕ) → first_of none_yet x ≡ 0
none_first x = get_or-replicate_same {A = ℕ} Limit.variables x 0

pub none-held : (β : ℕ → Bounds) (ρ : Valuation) → Held β ρ none_yet
none-held β ρ x h = absurd (h (none_first x))

-- ---- the theorem over the variables and rows of the row system

module _ (model system : List ℕ) (s : ℕ → Bool) (typed : All (Typed (variables model)) (constraints model))
    (plain : All (λ c. Formed (length (variables model)) (rule (bounds_in (variables model)) (builtin c))) (constraints model))
    (formed : AllFormed (bounds_in (variables model)) s (length (variables model)) none_yet (constraints model))
    (same_variables : variables system ≡ variables model ++ auxiliaries_from (bounds_in (variables model)) s (length (variables model)) none_yet (constraints model))
    (same_rows : rows system ≡ rows_from (bounds_in (variables model)) s (length (variables model)) none_yet (constraints model)) where
  abbrev Vs : List Bounds
  Vs = variables model

  abbrev n : ℕ
  n = length Vs

  abbrev cs : List Constraint
  cs = constraints model

  abbrev As : List Bounds
  As = auxiliaries_from (bounds_in Vs) s n none_yet cs

  abbrev Rs : List (Row ℕ)
  Rs = rows_from (bounds_in Vs) s n none_yet cs

  -- the model, and the system, as propositions
  of-model : (vs : List ℤ) → SatisfiesModel model vs ↔ ((length vs ≡ n) × Keeps Vs (value vs) × AllTrue (value vs) cs)
  of-model vs = satisfies Vs (λ c. meaning (value vs) (builtin c)) (λ c. meaning (value vs) (builtin c) ≡ true) (λ c. (λ e. e, λ e. e)) cs vs

  of-system : (ys : List ℤ) → SatisfiesRows system ys ↔ ((length ys ≡ length (Vs ++ As)) × Keeps (Vs ++ As) (value ys) × All (Sat (value ys)) Rs)
  of-system ys = rw (same_variables, same_rows) (satisfies (Vs ++ As) (satisfied (value ys)) (Sat (value ys)) (says-satisfied (value ys)) Rs ys)

  pub picks-satisfy : (vs : List ℤ) → SatisfiesModel model vs → SatisfiesRows system (vs ++ picks_from (bounds_in Vs) s (value vs) n none_yet cs)
  picks-satisfy vs h =
      let m = (of-model vs).0 h in
      let xs = picks_from (bounds_in Vs) s (value vs) n none_yet cs in
      let ρ = value (vs ++ xs) in
      let l = picks-length (bounds_in Vs) s (value vs) n none_yet cs in
      let a = agrees n vs xs m.0 in
      let f : From n ρ (value (xs ++ [])) = rw (append-nil xs) a.after in
      let c = rows-complete (bounds_in Vs) s n ρ (value vs) a.before n none_yet cs (all_plain Vs cs typed plain) formed (all_fit Vs cs typed (value vs) m.1) (none-held (bounds_in Vs) ρ) [] f m.2 in
      (of-system (vs ++ xs)).1 (
        length-append vs xs ∙ ap₂ ◌+◌ m.0 l ∙ sym (length-append Vs As),
        (both-kept Vs As vs xs m.0).1 (m.1, subst (Keeps As) (fun_ext a.after) c.0),
        c.1,
      )

  -- auxiliaries that satisfy the system with the values: the values satisfy the model, and they are the picks
  pub system-only : (vs xs : List ℤ) → length xs ≡ length As → SatisfiesRows system (vs ++ xs) →
      SatisfiesModel model vs × (xs ≡ picks_from (bounds_in Vs) s (value vs) n none_yet cs)
  system-only vs xs l h =
      let m = (of-system (vs ++ xs)).0 h in
      let e : length vs ≡ n = left-length (length vs) (length xs) n (length As) (sym (length-append vs xs) ∙ m.0 ∙ length-append Vs As) l in
      let k = (both-kept Vs As vs xs e).0 m.1 in
      let ρ = value (vs ++ xs) in
      let a = agrees n vs xs e in
      let own = fun_ext a.after in
      let r = rows-only (bounds_in Vs) s n ρ (value vs) a.before n none_yet cs (all_plain Vs cs typed plain) formed (all_fit Vs cs typed (value vs) k.0) (none-held (bounds_in Vs) ρ) (subst (Keeps As) (sym own) k.1) m.2 in (
        (of-model vs).1 (e, k.0, r.0),
        are-value (picks_from (bounds_in Vs) s (value vs) n none_yet cs) xs (picks-length (bounds_in Vs) s (value vs) n none_yet cs ∙ sym l) (subst (Are (picks_from (bounds_in Vs) s (value vs) n none_yet cs)) own r.1),
      )
