-- What a test says: `Says t A`, the test t is true exactly where A holds.
use Rattle.std.proofs.Common.{◌≡◌, refl, sym, ap, subst, ◌∙◌, ◌⊎◌, inl, inr, ◌↔◌, Bool, true, false, not, ◌&&◌, ◌||◌, List, [], ◌∷◌, ℕ, ◌≤◌, T, leb, ℤ, pos, negsuc, eqb-true, eq-eqb, leb-true}
use mathlib.Core.Bool.{beq}
use lib.Signed.{le_z, lt_z}
use Rattle.integers.specs.Choice.{◌if◌else◌}
use Rattle.integers.specs.Number.{◌≟◌}
use Rattle.integers.specs.Lists.{all, any}
use Rattle.integers.specs.Bounds.{within}
use Rattle.integers.specs.declared.Bounds.{Bounds}
use Rattle.integers.proofs.Linear.{◌⊑◌, ◌⊏◌, by_le}
use Rattle.integers.proofs.Sums.{not-less}

abbrev pub Says : Bool → Type 0 → Type 0
Says t A = (t ≡ true) ↔ A

pub false-true : {G : Type 0} → false ≡ true → G
false-true e = absurd (subst (λ b. elim b as (λ x. Type 0) [ true ↦ ⊥ | false ↦ Unit {0} ]) e tt)

-- ---- numbers

-- a count that is kept where it is at most a limit
pub capped : (n most other : ℕ) → other ≤ most → (n if leb n most else other) ≤ most
capped n most other h = go (leb n most) refl
  where
    go : (b : Bool) → leb n most ≡ b → (n if b else other) ≤ most
    go true e = leb-true n most e
    go false e = h

pub says-le : (a b : ℤ) → Says (le_z a b) (a ⊑ b)
says-le a b = by_le a b (λ t. (t ≡ true) ↔ (a ⊑ b)) (λ h. (λ e. h, λ k. refl)) (λ n. (λ e. false-true e, λ k. absurd (n k)))

pub says-lt : (a b : ℤ) → Says (lt_z a b) (a ⊏ b)
says-lt a b = (λ e. record { lt = subst T (sym e) tt }, λ h. go (lt_z a b) h.lt)
  where
    go : (t : Bool) → T t → t ≡ true
    go true h = refl
    go false h = absurd h

is-equal : (a b : ℤ) → (a ≟ b) ≡ true → a ≡ b
unfolding ◌≟◌
is-equal (pos a) (pos b) e = ap pos (eqb-true a b e)
is-equal (pos a) (negsuc b) e = false-true e
is-equal (negsuc a) (pos b) e = false-true e
is-equal (negsuc a) (negsuc b) e = ap negsuc (eqb-true a b e)

equal-self : (a : ℤ) → (a ≟ a) ≡ true
unfolding ◌≟◌
equal-self (pos a) = eq-eqb a a refl
equal-self (negsuc a) = eq-eqb a a refl

pub says-equal : (a b : ℤ) → Says (a ≟ b) (a ≡ b)
says-equal a b = (is-equal a b, λ e. rw e (equal-self b))

pub not-below : (a b : ℤ) → lt_z a b ≡ false → b ⊑ a
not-below a b e = not-less a b (λ h. false-true (sym e ∙ (says-lt a b).1 h))

-- ---- the operations on tests

-- two tests that say what is equivalent are the same
pub same_test : {t u : Bool} {A B : Type 0} → Says t A → Says u B → A ↔ B → t ≡ u
same_test {t} {u} {A} {B} s r e = go t u s r
  where
    go : (t u : Bool) → Says t A → Says u B → t ≡ u
    go true true s r = refl
    go true false s r = sym (r.1 (e.0 (s.0 refl)))
    go false true s r = s.1 (e.1 (r.0 refl))
    go false false s r = refl

pub says-not : {t : Bool} {A : Type 0} → Says t A → Says (not t) (¬ A)
says-not {t} {A} s = go t s
  where
    go : (t : Bool) → Says t A → Says (not t) (¬ A)
    go true s = (λ e. false-true e, λ n. absurd (n (s.0 refl)))
    go false s = (λ e a. false-true (s.1 a), λ n. refl)

pub says-and : {t u : Bool} {A B : Type 0} → Says t A → Says u B → Says (t && u) (A × B)
says-and {t} {u} {A} {B} s r = go t s
  where
    go : (t : Bool) → Says t A → Says (t && u) (A × B)
    go true s = (λ e. (s.0 refl, r.0 e), λ h. r.1 h.1)
    go false s = (λ e. false-true e, λ h. s.1 h.0)

pub says-or : {t u : Bool} {A B : Type 0} → Says t A → Says u B → Says (t || u) (A ⊎ B)
says-or {t} {u} {A} {B} s r = go t s
  where
    go : (t : Bool) → Says t A → Says (t || u) (A ⊎ B)
    go true s = (λ e. inl (s.0 refl), λ h. refl)
    go false s = (λ e. inr (r.0 e), λ h. elim h [ inl a ↦ false-true (s.1 a) | inr b ↦ r.1 b ])

-- two tests that agree
pub says_beq : {t u : Bool} {A B : Type 0} → Says t A → Says u B → Says (beq t u) ((A → B) × (B → A))
says_beq {t} {u} {A} {B} s r = go t u s r
  where
    go : (t u : Bool) → Says t A → Says u B → Says (beq t u) ((A → B) × (B → A))
    go true true s r = (λ e. (λ a. r.0 refl, λ b. s.0 refl), λ h. refl)
    go true false s r = (λ e. false-true e, λ h. r.1 (h.0 (s.0 refl)))
    go false true s r = (λ e. false-true e, λ h. s.1 (h.1 (r.0 refl)))
    go false false s r = (λ e. (λ a. false-true (s.1 a), λ b. false-true (r.1 b)), λ h. refl)

-- ---- bounds

abbrev pub In : Bounds → ℤ → Type 0
In B x = (B.lower ⊑ x) × (x ⊑ B.upper)

pub says-within : (B : Bounds) (x : ℤ) → Says (within B x) (In B x)
unfolding within
says-within B x = says-and (says-le B.lower x) (says-le x B.upper)

-- ---- lists

abbrev pub All : {A : Type 0} → (A → Type 0) → List A → Type 0
All P [] = Unit {0}
All P (x ∷ xs) = P x × All P xs

abbrev pub Any : {A : Type 0} → (A → Type 0) → List A → Type 0
Any P [] = ⊥
Any P (x ∷ xs) = P x ⊎ Any P xs

abbrev pub Member : {A : Type 0} → A → List A → Type 0
Member a xs = Any (λ x. a ≡ x) xs

pub says_all : {A : Type 0} (t : A → Bool) (P : A → Type 0) → ((x : A) → Says (t x) (P x)) → (xs : List A) → Says (all t xs) (All P xs)
unfolding all
says_all t P h [] = (λ e. tt, λ k. refl)
says_all t P h (x ∷ xs) = says-and (h x) (says_all t P h xs)

pub says_any : {A : Type 0} (t : A → Bool) (P : A → Type 0) → ((x : A) → Says (t x) (P x)) → (xs : List A) → Says (any t xs) (Any P xs)
unfolding any
says_any t P h [] = (λ e. false-true e, λ k. absurd k)
says_any t P h (x ∷ xs) = says-or (h x) (says_any t P h xs)
