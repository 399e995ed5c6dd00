-- What it is that a judge says "holds": every value is within its bounds, and everything passes the test.
use Rattle.std.proofs.Common.{◌≡◌, refl, sym, ap, ◌∙◌, ◌↔◌, Bool, true, false, ◌&&◌, List, [], ◌∷◌, ℕ, zero, suc, ◌+◌, ◌<◌, ◌≤◌, arith, le_of_suc-le-suc, not-suc-le-zero, length}
use Rattle.integers.specs.Choice.{◌if◌else◌}
use Rattle.integers.specs.Lists.{all}
use Rattle.integers.specs.Bounds.{within, bounds_in}
use Rattle.integers.specs.Terms.{Valuation}
use Rattle.integers.specs.declared.Bounds.{Bounds}
use Rattle.integers.proofs.Tests.{false-true}
use Rattle.words.specs.Answer.{Answer, holds, out_of_bounds, is_false, is_holds}
use Rattle.words.specs.Judge.{first_false, first_out_of_bounds, judge}

-- "holds" is no other answer
not-false : (k : ℕ) → is_false k ≡ holds → ⊥
unfolding is_holds
not-false k e = false-true (ap is_holds e)

not-outside : (k : ℕ) → out_of_bounds k ≡ holds → ⊥
unfolding is_holds
not-outside k e = false-true (ap is_holds e)

first-false : {A : Type 0} (t : A → Bool) (k : ℕ) (xs : List A) → (first_false t k xs ≡ holds) ↔ (all t xs ≡ true)
unfolding first_false all
first-false t k [] = (λ e. refl, λ e. refl)
first-false t k (x ∷ xs) = go (t x) (first-false t (k + 1) xs)
  where
    go : (b : Bool) → ((first_false t (k + 1) xs ≡ holds) ↔ (all t xs ≡ true)) → ((first_false t (k + 1) xs if b else is_false k) ≡ holds) ↔ ((b && all t xs) ≡ true)
    go true r = r
    go false r = (λ e. absurd (not-false k e), λ e. false-true e)

-- the bounds from the k-th variable on
abbrev WithinFrom : Valuation → ℕ → List Bounds → Type 0
WithinFrom σ k Bs = (v : ℕ) → v < length Bs → within (bounds_in Bs v) (σ (k + v)) ≡ true

shift : (σ : Valuation) (k : ℕ) (B : Bounds) (Bs : List Bounds) → ((within B (σ k) ≡ true) × WithinFrom σ (k + 1) Bs) ↔ WithinFrom σ k (B ∷ Bs)
unfolding bounds_in
shift σ k B Bs = (there, λ f. (first f, λ v l. later f v l))
  where
    there : (within B (σ k) ≡ true) × WithinFrom σ (k + 1) Bs → WithinFrom σ k (B ∷ Bs)
    there h zero l = let e : k + 0 ≡ k = omega arith in rw e h.0
    there h (suc v) l = let e : k + suc v ≡ k + 1 + v = omega arith in rw e (h.1 v (le_of_suc-le-suc l))

    first : WithinFrom σ k (B ∷ Bs) → within B (σ k) ≡ true
    first f = let e : k + 0 ≡ k = omega arith in rw e at (f zero (omega arith))

    later : WithinFrom σ k (B ∷ Bs) → WithinFrom σ (k + 1) Bs
    later f v l = let e : k + suc v ≡ k + 1 + v = omega arith in rw e at (f (suc v) (omega arith))

pub first-outside : (σ : Valuation) (k : ℕ) (Bs : List Bounds) (after : Answer) → (first_out_of_bounds σ k Bs after ≡ holds) ↔ (WithinFrom σ k Bs × (after ≡ holds))
unfolding first_out_of_bounds
first-outside σ k [] after = (λ e. ((λ v l. absurd (not-suc-le-zero l)), e), λ h. h.1)
first-outside σ k (B ∷ Bs) after = go (within B (σ k)) refl (first-outside σ (k + 1) Bs after)
  where
    go : (b : Bool) → within B (σ k) ≡ b → ((first_out_of_bounds σ (k + 1) Bs after ≡ holds) ↔ (WithinFrom σ (k + 1) Bs × (after ≡ holds))) →
        ((first_out_of_bounds σ (k + 1) Bs after if b else out_of_bounds k) ≡ holds) ↔ (WithinFrom σ k (B ∷ Bs) × (after ≡ holds))
    go true i r = (λ e. ((shift σ k B Bs).0 (i, (r.0 e).0), (r.0 e).1), λ h. r.1 (((shift σ k B Bs).1 h.0).1, h.1))
    go false i r = (λ e. absurd (not-outside k e), λ h. false-true (sym i ∙ ((shift σ k B Bs).1 h.0).0))

pub judge-holds : {A : Type 0} (σ : Valuation) (Bs : List Bounds) (t : A → Bool) (xs : List A) →
    (judge σ Bs t xs ≡ holds) ↔ (((v : ℕ) → v < length Bs → within (bounds_in Bs v) (σ v) ≡ true) × (all t xs ≡ true))
unfolding judge
judge-holds σ Bs t xs =
    let o = first-outside σ 0 Bs (first_false t 0 xs) in
    let f = first-false t 0 xs in
    let z : (v : ℕ) → 0 + v ≡ v = λ v. omega arith in
    (λ e. ((λ v l. rw (z v) at ((o.0 e).0 v l)), f.0 (o.0 e).1), λ h. o.1 ((λ v l. rw (z v) (h.0 v l)), f.1 h.1))

-- ---- a walk from place to place: k things stand before the place and pass the test, those left are to be judged
pub record Passed {A : Type 0} (t : A → Bool) (whole : List A) (k at : ℕ) (left : List A) : Type 0 where
  pub few : k ≤ at
  pub rest : first_false t k left ≡ first_false t 0 whole

pub none_passed : {A : Type 0} (t : A → Bool) (whole : List A) → Passed t whole 0 0 whole
none_passed t whole = record { few = omega arith; rest = refl }

module _ {A : Type 0} {t : A → Bool} {whole left : List A} {k at : ℕ} (p : Passed t whole k at left) where
  pub pass-one : {x : A} {xs : List A} → left ≡ x ∷ xs → t x ≡ true → Passed t whole (k + 1) (at + 1) xs
  unfolding first_false
  pass-one e b = record { few = omega (arith, p.few); rest = rw (e, b) at p.rest }

  pub fail_one : {x : A} {xs : List A} → left ≡ x ∷ xs → t x ≡ false → is_false k ≡ first_false t 0 whole
  unfolding first_false
  fail_one e b = rw (e, b) at p.rest

  pub pass_all : left ≡ [] → holds ≡ first_false t 0 whole
  unfolding first_false
  pass_all e = rw e at p.rest
