-- One-hot bits, for labels of any type: bits that keep their bounds and add up to 1 choose a label, and the picked bits choose one that passes
-- the test.
use Rattle.std.proofs.Common.{◌≡◌, refl, sym, ap, ap₂, ◌∙◌, subst, ◌⊎◌, inl, inr, ◌↔◌, Bool, true, false, List, [], ◌∷◌, ◌++◌, map, arith, ℕ, zero, suc, ◌+◌, ℤ, pos, negsuc, length}
use lib.ListN.{length-map}
use Rattle.integers.specs.Choice.{◌if◌else◌}
use Rattle.integers.specs.Number.{◌⊕◌, ◌⊗◌, ◌≟◌}
use Rattle.integers.specs.Terms.{Valuation, Term, value}
use Rattle.integers.specs.Bounds.{bit}
use Rattle.integers.proofs.Linear.{◌⊑◌, linear, arith_z}
use Rattle.integers.proofs.Bits.{Bit, to-bit, bit_case, bits as zero_one}
use Rattle.integers.proofs.Tests.{false-true, says-equal, In, Any, Member}
use Rattle.integers.proofs.Sums.{⊕_assoc, zero-plus}
use Rattle.rules.specs.Parts.{bits, weighted, one, one_bit, chosen}
use Rattle.rules.specs.Pick.{first_bit}
use Rattle.rules.proofs.Lengths.{bits-length}
use Rattle.sharing.proofs.Good.{dot, Sat, see, Keeps}

-- ---- sums

pub dot-append : {X : Type 0} (ρ : X → ℤ) (ts us : List (Term X)) → dot ρ (ts ++ us) ≡ dot ρ ts ⊕ dot ρ us
dot-append ρ [] us = sym (zero-plus _)
dot-append ρ (t ∷ ts) us = ap (λ s. t.coefficient ⊗ ρ t.variable ⊕ s) (dot-append ρ ts us) ∙ sym (⊕_assoc _ _ _)

-- Σ w × bit over the labels, the bits from 0 on
abbrev pub bit_sum : {A : Type 0} → (A → ℤ) → List A → Valuation → ℤ
bit_sum w [] γ = pos 0
bit_sum w (l ∷ ls) γ = w l ⊗ γ zero ⊕ bit_sum w ls (λ j. γ (suc j))

-- γ is α from k on
abbrev pub From : ℕ → Valuation → Valuation → Type 0
From k α γ = (j : ℕ) → α (k + j) ≡ γ j

pub from_zero : (α : Valuation) → From 0 α α
from_zero α j = let e : 0 + j ≡ j = omega arith in ap α e

pub from-head : (k : ℕ) (α γ : Valuation) → From k α γ → α k ≡ γ 0
from-head k α γ h = let e : k ≡ k + 0 = omega arith in ap α e ∙ h 0

pub from_tail : (k : ℕ) (α γ : Valuation) → From k α γ → From (suc k) α (λ j. γ (suc j))
from_tail k α γ h j = let e : suc k + j ≡ k + suc j = omega arith in ap α e ∙ h (suc j)

pub dot-weighted : {A : Type 0} (w : A → ℤ) (ls : List A) (k : ℕ) (σ α γ : Valuation) → From k α γ → dot (see σ α) (weighted w ls k) ≡ bit_sum w ls γ
unfolding weighted
dot-weighted w [] k σ α γ h = refl
dot-weighted w (l ∷ ls) k σ α γ h =
    ap₂ (λ x s. w l ⊗ x ⊕ s) (from-head k α γ h) (dot-weighted w ls (suc k) σ α (λ j. γ (suc j)) (from_tail k α γ h))

-- ---- the rows

less_one : (s : ℤ) → (s ⊕ negsuc 0 ≡ pos 0) ↔ (s ≡ pos 1)
less_one = simp linear (omega arith)

pub less-variable : (s x : ℤ) → (s ⊕ (negsuc 0 ⊗ x ⊕ pos 0) ⊕ pos 0 ≡ pos 0) ↔ (s ≡ x)
less-variable = simp linear (omega arith)

pub one_bit-law : {A : Type 0} (ls : List A) (σ α : Valuation) → Sat (see σ α) (one_bit ls) ↔ (bit_sum one ls α ≡ pos 1)
unfolding one_bit
one_bit-law ls σ α = rw (dot-weighted one ls 0 σ α α (from_zero α)) (less_one _)

pub chosen-law : {A : Type 0} (w : A → ℤ) (ls : List A) (k x : ℕ) (σ α γ : Valuation) → From k α γ →
    Sat (see σ α) (chosen w ls k x) ↔ (bit_sum w ls γ ≡ σ x)
unfolding chosen
chosen-law w ls k x σ α γ h = rw (dot-append (see σ α) (weighted w ls k), dot-weighted w ls k σ α γ h) (less-variable _ _)

-- ---- sound: bits that add up to 1 choose a label

-- the bits choose the label l: every weighted sum over them is the weight of l
abbrev pub Chooses : {A : Type 0} → List A → Valuation → A → Type 0
Chooses {A} ls γ l = Member l ls × ((w : A → ℤ) → bit_sum w ls γ ≡ w l)

pub keeps-bit : (x : ℤ) → In bit x → Bit x
keeps-bit x h = to-bit x h.0 h.1

pub skip : (a s t : ℤ) → s ≡ t → a ⊗ pos 0 ⊕ s ≡ t
skip = simp linear (omega arith)

pub take : (a s : ℤ) → s ≡ pos 0 → a ⊗ pos 1 ⊕ s ≡ a
take = simp linear (omega arith)

pub not_negative : {A : Type 0} (ls : List A) (γ : Valuation) → Keeps (bits ls) γ → pos 0 ⊑ bit_sum one ls γ
unfolding bits
not_negative [] γ h = omega arith_z
not_negative (l ∷ ls) γ h = step (γ 0) (keeps-bit _ h.0) _ (not_negative ls (λ j. γ (suc j)) h.1)
  where
    step : (x : ℤ) → Bit x → (s : ℤ) → pos 0 ⊑ s → pos 0 ⊑ pos 1 ⊗ x ⊕ s
    step = simp zero_one (simp linear (omega arith))

-- where the sum with a bit in front is 0, both are
pub bit-zero : (x : ℤ) → Bit x → (s : ℤ) → pos 0 ⊑ s → pos 1 ⊗ x ⊕ s ≡ pos 0 → (x ≡ pos 0) × (s ≡ pos 0)
bit-zero = simp zero_one (simp linear (omega arith))

-- a sum with a bit in front, of sums that are the same
pub with-bit : (d p s t : ℤ) → d ≡ p → s ≡ t → pos 1 ⊗ d ⊕ s ≡ p ⊕ t
with-bit = simp linear (omega arith)

pub all-zero : {A : Type 0} (w : A → ℤ) (ls : List A) (γ : Valuation) → Keeps (bits ls) γ → bit_sum one ls γ ≡ pos 0 → bit_sum w ls γ ≡ pos 0
unfolding bits
all-zero w [] γ h e = refl
all-zero w (l ∷ ls) γ h e =
    let z = bit-zero (γ 0) (keeps-bit _ h.0) _ (not_negative ls (λ j. γ (suc j)) h.1) e in
    rw z.0 (skip _ _ _ (all-zero w ls (λ j. γ (suc j)) h.1 z.1))

pub chooses : {A : Type 0} (ls : List A) (γ : Valuation) → Keeps (bits ls) γ → bit_sum one ls γ ≡ pos 1 → (l : A) × Chooses ls γ l
unfolding bits
chooses [] γ h e = absurd (omega arith_z)
chooses {A} (l ∷ ls) γ h e = bit_case (keeps-bit _ h.0) (later (chooses ls (λ j. γ (suc j)) h.1)) here
  where
    after-zero : (s : ℤ) → pos 1 ⊗ pos 0 ⊕ s ≡ pos 1 → s ≡ pos 1
    after-zero = simp linear (omega arith)

    after_one : (s : ℤ) → pos 1 ⊗ pos 1 ⊕ s ≡ pos 1 → s ≡ pos 0
    after_one = simp linear (omega arith)

    later : (bit_sum one ls (λ j. γ (suc j)) ≡ pos 1 → (m : A) × Chooses ls (λ j. γ (suc j)) m) → γ 0 ≡ pos 0 → (m : A) × Chooses (l ∷ ls) γ m
    later rest z = let r = rest (after-zero _ (rw z at e)) in (r.0, (inr r.1.0, λ w. rw z (skip _ _ _ (r.1.1 w))))

    here : γ 0 ≡ pos 1 → (m : A) × Chooses (l ∷ ls) γ m
    here z = (l, (inl refl, λ w. rw z (take _ _ (all-zero w ls (λ j. γ (suc j)) h.1 (after_one _ (rw z at e))))))

pub one_hot_sound : {A : Type 0} (ls : List A) (σ α : Valuation) → Keeps (bits ls) α → Sat (see σ α) (one_bit ls) → (l : A) × Chooses ls α l
one_hot_sound ls σ α h s = chooses ls α h ((one_bit-law ls σ α).0 s)

-- the rows of chosen bits
pub chosen_at : {A : Type 0} (ls : List A) (σ α : Valuation) (l : A) → Chooses ls α l → (w : A → ℤ) (x : ℕ) →
    Sat (see σ α) (chosen w ls 0 x) ↔ (w l ≡ σ x)
chosen_at ls σ α l c w x = rw (← c.1 w) (chosen-law w ls 0 x σ α α (from_zero α))

pub chosen-one : {A : Type 0} (ls : List A) (σ α : Valuation) (l : A) → Chooses ls α l → Sat (see σ α) (one_bit ls)
chosen-one ls σ α l c = (one_bit-law ls σ α).1 (c.1 one)

-- ---- complete: the picked bits choose a label that passes the test

pub first_bit-length : {A : Type 0} (t : A → Bool) (ls : List A) → length (first_bit t ls) ≡ length ls
unfolding first_bit
first_bit-length t [] = refl
first_bit-length t (l ∷ ls) = go (t l) (first_bit-length t ls)
  where
    go : (b : Bool) → length (first_bit t ls) ≡ length ls → length (pos 1 ∷ map (λ m. pos 0) ls if b else pos 0 ∷ first_bit t ls) ≡ suc (length ls)
    go true e = ap suc (length-map ls (λ m. pos 0))
    go false e = ap suc e

pub bits-filled : {A : Type 0} (t : A → Bool) (ls : List A) → length (first_bit t ls) ≡ length (bits ls)
bits-filled t ls = first_bit-length t ls ∙ sym (bits-length ls)

pub zeros : {A : Type 0} (ls : List A) (rest : List ℤ) → let γ = value (map (λ l. pos 0) ls ++ rest) in
    Keeps (bits ls) γ × ((w : A → ℤ) → bit_sum w ls γ ≡ pos 0)
unfolding bits value
zeros [] rest = (tt, λ w. refl)
zeros (l ∷ ls) rest = let r = zeros ls rest in (((omega arith_z, omega arith_z), r.0), λ w. skip _ _ _ (r.1 w))

-- bits that keep their bounds and choose a label that passes the test
abbrev pub Picked : {A : Type 0} → (A → Bool) → List A → Valuation → Type 0
Picked {A} t ls γ = Keeps (bits ls) γ × ((l : A) × ((t l ≡ true) × Chooses ls γ l))

pub one_hot_complete : {A : Type 0} (t : A → Bool) (ls : List A) (rest : List ℤ) → Any (λ l. t l ≡ true) ls →
    Picked t ls (value (first_bit t ls ++ rest))
unfolding bits value first_bit
one_hot_complete t [] rest h = absurd h
one_hot_complete {A} t (l ∷ ls) rest h = go (t l) refl h (one_hot_complete t ls rest)
  where
    go : (b : Bool) → t l ≡ b → (t l ≡ true) ⊎ Any (λ m. t m ≡ true) ls → (Any (λ m. t m ≡ true) ls → Picked t ls (value (first_bit t ls ++ rest))) →
        Picked t (l ∷ ls) (value ((pos 1 ∷ map (λ m. pos 0) ls if b else pos 0 ∷ first_bit t ls) ++ rest))
    go true e h r = let z = zeros ls rest in (((omega arith_z, omega arith_z), z.0), (l, (e, (inl refl, λ w. take _ _ (z.1 w)))))
    go false e (inl f) r = false-true (sym e ∙ f)
    go false e (inr m) r =
        let p = r m in
        (((omega arith_z, omega arith_z), p.0), (p.1.0, (p.1.1.0, (inr p.1.1.1.0, λ w. skip _ _ _ (p.1.1.1.1 w)))))

-- ---- labels that are numbers: the chosen one is the value of a variable

pub chosen-value : (ls : List ℤ) (σ α : Valuation) (x : ℕ) → (l : ℤ) × Chooses ls α l → Sat (see σ α) (chosen (λ l. l) ls 0 x) → Chooses ls α (σ x)
chosen-value ls σ α x (l, c) s = subst (Chooses ls α) ((chosen_at ls σ α l c (λ l. l) x).0 s) c

pub picked_value : (ls : List ℤ) (γ : Valuation) (v : ℤ) → (l : ℤ) × (((l ≟ v) ≡ true) × Chooses ls γ l) → Chooses ls γ v
picked_value ls γ v (l, (e, c)) = subst (Chooses ls γ) ((says-equal l v).0 e) c
