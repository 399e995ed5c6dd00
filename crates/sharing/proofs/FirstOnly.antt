-- One-hot bits that are those picked: no bit is 1 after a label that passes the test. The last rows of 26 and 33 say so; of numbers that stand once each it
-- is so by itself.
use Rattle.std.proofs.Common.{◌≡◌, refl, sym, ◌∙◌, subst, ◌⊎◌, inl, inr, ◌↔◌, Bool, true, false, List, [], ◌∷◌, ◌++◌, map, arith, ℕ, suc, ℤ, pos}
use Rattle.integers.specs.Choice.{◌if◌else◌}
use Rattle.integers.specs.Number.{◌⊕◌, ◌⊖◌, ◌⊗◌, ◌≟◌, +0, +1, -1}
use Rattle.integers.specs.Terms.{Valuation, value}
use Rattle.integers.specs.Bounds.{◌to◌}
use Rattle.integers.specs.declared.Bounds.{Bounds}
use Rattle.integers.proofs.Linear.{◌⊑◌, ◌⊏◌, linear, arith_z}
use Rattle.integers.proofs.Bits.{Bit, to-bit, bit_case, bits as zero_one}
use Rattle.integers.proofs.Tests.{Says, false-true, says-equal, In, All, Member}
use Rattle.integers.proofs.Sums.{times_zero}
use Rattle.rules.specs.Parts.{bits, weighted, one, one_bit, chosen}
use Rattle.rules.specs.Rule.{first_only}
use Rattle.rules.specs.Pick.{first_bit}
use Rattle.sharing.proofs.Good.{dot, Sat, see, Keeps, Are}
use Rattle.sharing.proofs.OneHot.{bit_sum, From, from_zero, from_tail, dot-weighted, one_bit-law, chosen-law, keeps-bit, skip, take, not_negative, all-zero, chooses, zeros, bit-zero}
use Rattle.rules.proofs.Members.{Distinct}

-- where a later bit is 1, P holds of the label
abbrev pub FirstOnly : {A : Type 0} → (A → Type 0) → List A → Valuation → Type 0
FirstOnly P [] γ = Unit {0}
FirstOnly P (l ∷ ls) γ = (bit_sum one ls (λ j. γ (suc j)) ≡ pos 1 → P l) × FirstOnly P ls (λ j. γ (suc j))

pub first_implies : {A : Type 0} (P Q : A → Type 0) → ((l : A) → P l → Q l) → (ls : List A) (γ : Valuation) → FirstOnly P ls γ → FirstOnly Q ls γ
first_implies P Q f [] γ h = tt
first_implies P Q f (l ∷ ls) γ h = (λ e. f l (h.0 e), first_implies P Q f ls (λ j. γ (suc j)) h.1)

-- ---- sums of bits

zero_one_differ : {G : Type 0} (s : ℤ) → s ≡ pos 0 → s ≡ pos 1 → G
zero_one_differ s e f = absurd (omega (arith_z, sym e ∙ f))

-- bits that add up to 0 are 0, and none is 1 after another
zero_bits : {A : Type 0} (P : A → Type 0) (ls : List A) (γ : Valuation) → Keeps (bits ls) γ → bit_sum one ls γ ≡ pos 0 →
    Are (map (λ l. pos 0) ls) γ × FirstOnly P ls γ
unfolding bits
zero_bits P [] γ h e = (tt, tt)
zero_bits P (l ∷ ls) γ h e =
    let z = bit-zero (γ 0) (keeps-bit _ h.0) _ (not_negative ls (λ j. γ (suc j)) h.1) e in
    let r = zero_bits P ls (λ j. γ (suc j)) h.1 z.1 in
    ((z.0, r.0), (λ f. zero_one_differ _ z.1 f, r.1))

-- bits that add up to 1: the first is 1 and the others add up to 0, or it is 0 and they add up to 1
first_or_later : {A : Type 0} (w : A → ℤ) (X : ℤ) (l : A) (ls : List A) (γ : Valuation) → Keeps (bits (l ∷ ls)) γ → bit_sum one (l ∷ ls) γ ≡ pos 1 →
    bit_sum w (l ∷ ls) γ ≡ X → let γ' : Valuation = λ j. γ (suc j) in
    ((γ 0 ≡ pos 1) × (bit_sum one ls γ' ≡ pos 0) × (w l ≡ X)) ⊎ ((γ 0 ≡ pos 0) × (bit_sum one ls γ' ≡ pos 1) × (bit_sum w ls γ' ≡ X))
unfolding bits
first_or_later w X l ls γ h e f =
    bit_case (keeps-bit _ h.0) (λ z. inr (z, zero (γ 0) _ z e, sym (skip (w l) _ _ refl) ∙ (rw z at f)))
    (λ z. let n = one_more (γ 0) _ z e in inl (z, n, sym (take (w l) _ (all-zero w ls (λ j. γ (suc j)) h.1 n)) ∙ (rw z at f)))
  where
    zero : (x s : ℤ) → x ≡ pos 0 → pos 1 ⊗ x ⊕ s ≡ pos 1 → s ≡ pos 1
    zero = simp linear (omega arith)

    one_more : (x s : ℤ) → x ≡ pos 1 → pos 1 ⊗ x ⊕ s ≡ pos 1 → s ≡ pos 0
    one_more = simp linear (omega arith)

-- ---- the bits are those picked

passed : {t : Bool} {A B : Type 0} → Says t A → A → (x y : B) → (x if t else y) ≡ x
passed s a x y = rw (s.1 a) refl

failed : {t : Bool} {A B : Type 0} → Says t A → ¬ A → (x y : B) → (x if t else y) ≡ y
failed {t} {A} s n x y = go t s
  where
    go : (t : Bool) → Says t A → (x if t else y) ≡ y
    go true s = absurd (n (s.0 refl))
    go false s = refl

-- weights add up to X over the bits, and no label of the weight X stands before the bit that is 1
pub hot_bits : {A : Type 0} (w : A → ℤ) (X : ℤ) (ls : List A) (γ : Valuation) → Keeps (bits ls) γ → bit_sum one ls γ ≡ pos 1 → bit_sum w ls γ ≡ X →
    FirstOnly (λ l. ¬ (w l ≡ X)) ls γ → Are (first_bit (λ l. w l ≟ X) ls) γ
unfolding bits first_bit
hot_bits w X [] γ h e f o = tt
hot_bits w X (l ∷ ls) γ h e f o =
    elim (first_or_later w X l ls γ h e f) [
      | inl p ↦ subst (λ xs. Are xs γ) (sym (passed (says-equal (w l) X) p.2 _ _)) (p.0, (zero_bits (λ l. ⊥) ls _ h.1 p.1).0)
      | inr p ↦ subst (λ xs. Are xs γ) (sym (failed (says-equal (w l) X) (o.0 p.1) _ _)) (p.0, hot_bits w X ls _ h.1 p.1 p.2 o.1)
    ]

-- ---- labels that are numbers, each once

distinct_first : (X : ℤ) (ls : List ℤ) (γ : Valuation) → Distinct ls → Keeps (bits ls) γ → bit_sum one ls γ ≡ pos 1 → bit_sum (λ l. l) ls γ ≡ X →
    FirstOnly (λ l. ¬ (l ≡ X)) ls γ
unfolding bits
distinct_first X [] γ d h e f = tt
distinct_first X (l ∷ ls) γ d h e f =
    elim (first_or_later (λ l. l) X l ls γ h e f) [
      | inl p ↦ (λ o. zero_one_differ _ p.1 o, (zero_bits (λ l. ¬ (l ≡ X)) ls _ h.1 p.1).1)
      | inr p ↦ (λ o. other (chooses ls _ h.1 p.1) p.2, distinct_first X ls _ d.1 h.1 p.1 p.2)
    ]
  where
    γ' : Valuation
    γ' = λ j. γ (suc j)

    -- X is one of the others
    other : (m : ℤ) × (Member m ls × ((w : ℤ → ℤ) → bit_sum w ls γ' ≡ w m)) → bit_sum (λ l. l) ls γ' ≡ X → ¬ (l ≡ X)
    other (m, (i, c)) g e = d.0 (subst (λ v. Member v ls) (sym (c (λ l. l)) ∙ g ∙ sym e) i)

-- 24, 25, 27, 28: the bits whose weights are the labels themselves, and add up to the value of x
pub value-bits : (ls : List ℤ) (σ α : Valuation) (x : ℕ) → Distinct ls → Keeps (bits ls) α → Sat (see σ α) (one_bit ls) →
    Sat (see σ α) (chosen (λ l. l) ls 0 x) → Are (first_bit (λ v. v ≟ σ x) ls) α
value-bits ls σ α x d k s c =
    let e = (one_bit-law ls σ α).0 s in
    let f = (chosen-law (λ l. l) ls 0 x σ α α (from_zero α)).0 c in
    hot_bits (λ l. l) (σ x) ls α k e f (distinct_first (σ x) ls α d k e f)

-- ---- the last rows of 26 and 33

constant-sum : {A : Type 0} (K : ℤ) (ls : List A) (γ : Valuation) → bit_sum (λ l. K) ls γ ≡ K ⊗ bit_sum one ls γ
constant-sum K [] γ = sym (times_zero K)
constant-sum K (l ∷ ls) γ = rw (constant-sum K ls (λ j. γ (suc j))) (grouped K (γ 0) _)
  where
    grouped : (K g t : ℤ) → K ⊗ g ⊕ K ⊗ t ≡ K ⊗ (pos 1 ⊗ g ⊕ t)
    grouped = simp linear (omega arith)

-- the row of a label with the two values x and m, S the sum of the later bits: it says that x is below m where one of them is 1
abbrev Later : ℤ → ℤ → ℤ → ℤ → Type 0
Later x m K S = +1 ⊗ x ⊕ (-1 ⊗ m ⊕ K ⊗ S) ⊕ (+1 ⊖ K) ⊑ +0

later-none : (x m lx hx lm hm : ℤ) → In (lx to hx) x → In (lm to hm) m → Later x m (hx ⊖ lm ⊕ +1) +0
later-none = simp linear (omega arith)

later-some : (x m K : ℤ) → Later x m K +1 ↔ (x ⊏ m)
later-some = simp linear (omega arith)

-- bits that add up to at most 1: so do those after the first
tail_in : (x : ℤ) → Bit x → (s : ℤ) → pos 0 ⊑ s → pos 1 ⊗ x ⊕ s ⊑ pos 1 → s ⊑ pos 1
tail_in = simp zero_one (simp linear (omega arith))

module _ (β : ℕ → Bounds) (σ : Valuation) (u v : ℕ → ℕ) where
  pub first_rows : (xs : List ℕ) (k : ℕ) (α γ : Valuation) → From k α γ → Keeps (bits xs) γ → bit_sum one xs γ ⊑ pos 1 →
      All (λ x. In (β (u x)) (σ (u x)) × In (β (v x)) (σ (v x))) xs →
      All (Sat (see σ α)) (first_only β u v xs k) ↔ FirstOnly (λ x. σ (u x) ⊏ σ (v x)) xs γ
  unfolding first_only bits
  first_rows [] k α γ a h s i = (λ g. tt, λ g. tt)
  first_rows (x ∷ []) k α γ a h s i = (λ g. (λ e. zero_one_differ _ refl e, tt), λ g. tt)
  first_rows (x ∷ (y ∷ ys)) k α γ a h s i =
      let γ' : Valuation = λ n. γ (suc n) in
      let S = bit_sum one (y ∷ ys) γ' in
      let K = (β (u x)).upper ⊖ (β (v x)).lower ⊕ +1 in
      let low = not_negative (y ∷ ys) γ' h.1 in
      let high = tail_in (γ 0) (keeps-bit _ h.0) S low s in
      let r = first_rows (y ∷ ys) (suc k) α γ' (from_tail k α γ a) h.1 high i.1 in
      let row : ℤ → Type 0 = λ d. +1 ⊗ σ (u x) ⊕ (-1 ⊗ σ (v x) ⊕ d) ⊕ (+1 ⊖ K) ⊑ +0 in
      let e : dot (see σ α) (weighted (λ l. K) (y ∷ ys) (suc k)) ≡ K ⊗ S =
      dot-weighted (λ l. K) (y ∷ ys) (suc k) σ α γ' (from_tail k α γ a) ∙ constant-sum K (y ∷ ys) γ' in
      let none = later-none (σ (u x)) (σ (v x)) (β (u x)).lower (β (u x)).upper (β (v x)).lower (β (v x)).upper i.0.0 i.0.1 in
      let some = later-some (σ (u x)) (σ (v x)) K in
      let later = Later (σ (u x)) (σ (v x)) K in (
        λ g. (λ o. some.0 (subst later o (subst row e g.0)), r.0 g.1),
        λ g. (
          subst row (sym e) (bit_case (to-bit S low high) (λ z. subst later (sym z) none) (λ o. subst later (sym o) (some.1 (g.0 o)))),
          r.1 g.1,
        ),
      )

-- the picked bits are such, where P holds of every label that does not pass the test
pub first-picked : {A : Type 0} (t : A → Bool) (P : A → Type 0) (ls : List A) (rest : List ℤ) → All (λ l. ¬ (t l ≡ true) → P l) ls →
    FirstOnly P ls (value (first_bit t ls ++ rest))
unfolding value first_bit
first-picked t P [] rest h = tt
first-picked {A} t P (l ∷ ls) rest h = go (t l) refl (first-picked t P ls rest h.1)
  where
    go : (b : Bool) → t l ≡ b → FirstOnly P ls (value (first_bit t ls ++ rest)) →
        FirstOnly P (l ∷ ls) (value ((pos 1 ∷ map (λ m. pos 0) ls if b else pos 0 ∷ first_bit t ls) ++ rest))
    go true e r = let z = zeros ls rest in (λ o. zero_one_differ _ (z.1 one) o, (zero_bits P ls _ z.0 (z.1 one)).1)
    go false e r = (λ o. h.0 (λ f. false-true (sym e ∙ f)), r)
