-- 02, wish 7: what the bits of an encoded variable say, the block's own or an earlier block's.
use Rattle.std.proofs.Common.{◌≡◌, refl, sym, ap, ◌∙◌, subst, ◌⊎◌, inl, inr, ◌↔◌, Bool, true, false, not, ◌&&◌, ◌||◌, List, [], ◌∷◌, ◌++◌, arith, ℕ, ◌+◌, ◌<◌, eqb, ℤ, pos, length, set, get_or-set_same, get_or-set_other, eqb-true, eq-eqb}
use native.Mathlib.Decide.{ℕ_discrete, dec_lt}
use lib.Seq.{set_out}
use Rattle.integers.specs.Choice.{◌if◌else◌}
use Rattle.integers.specs.Number.{◌⊕◌, ◌⊗◌, ◌≟◌, +0, +1}
use Rattle.integers.specs.Lists.{all, any}
use Rattle.integers.specs.Bounds.{width, values}
use Rattle.integers.specs.Terms.{Valuation, value}
use Rattle.integers.specs.declared.Bounds.{Bounds}
use Rattle.integers.proofs.Linear.{linear}
use Rattle.integers.proofs.Lists.{all-members}
use Rattle.integers.proofs.Tests.{Says, says_all, says-and, In, All, Member, false-true}
use Rattle.integers.proofs.Sums.{count-from}
use Rattle.rowsystems.specs.Row.{sum=0}
use Rattle.rules.specs.Block.{source, aux}
use Rattle.rules.specs.Parts.{bits, one, one_bit, chosen}
use Rattle.rules.specs.Pick.{bit_of, first_bit}
use Rattle.rules.specs.Shared.{Encoded, first_of, encoded_after, value_bit, new_bits, new_rows, kept, left_out, kept_sum, new_pick}
use Rattle.sharing.proofs.Good.{dot, Sat, see, Keeps, Are}
use Rattle.sharing.proofs.OneHot.{dot-append, less-variable, Chooses, chosen-one, chosen_at, one_hot_sound, one_hot_complete, chosen-value, picked_value, bits-filled}
use Rattle.sharing.proofs.Sets.{dot-kept}
use Rattle.sharing.proofs.FirstOnly.{value-bits}
use Rattle.rules.proofs.Members.{member-passes, values-member, values_distinct, keep_one}

-- ---- an encoded variable

-- the bits of x, from its first one on, choose its value
abbrev pub Bits : (ℕ → Bounds) → Valuation → ℕ → ℕ → Type 0
Bits β ρ x first = Chooses (values (β x)) (λ k. ρ (first + k)) (ρ x)

-- "each block hands the record of encoded variables to the next": what the record says of the values ρ of everything
abbrev pub Held : (ℕ → Bounds) → Valuation → Encoded → Type 0
Held β ρ e = (x : ℕ) → ¬ (first_of e x ≡ 0) → Bits β ρ x (first_of e x)

pub says-eqb : (a b : ℕ) → Says (eqb a b) (a ≡ b)
says-eqb a b = (eqb-true a b, eq-eqb a b)

-- what stands in the record afterwards: what stood there, or the block's first auxiliary for a shared variable that it encodes and that had none
pub entered : (s : ℕ → Bool) (first : ℕ) (e : Encoded) (xs : List ℕ) (v : ℕ) →
    (first_of (encoded_after s first e xs) v ≡ first_of e v)
    ⊎ ((first_of (encoded_after s first e xs) v ≡ first) × (any s xs ≡ true) × Member v xs × (first_of e v ≡ 0))
unfolding encoded_after any
entered s first e [] v = inl refl
entered s first e (x ∷ xs) v = go (s x && eqb (first_of e x) 0) (says-and {A = s x ≡ true} (λ p. p, λ p. p) (says-eqb (first_of e x) 0))
  where
    G : Bool → Type 0
    G b =
        (first_of (set e x first if b else e) v ≡ first_of e v)
        ⊎ ((first_of (set e x first if b else e) v ≡ first) × ((s x || any s xs) ≡ true) × Member v (x ∷ xs) × (first_of e v ≡ 0))

    at : v ≡ x → s x ≡ true → first_of e x ≡ 0 → Dec (x < length e) → G true
    at p q z (yes l) = inr (ap (first_of (set e x first)) p ∙ get_or-set_same e x first 0 l, rw q refl, inl p, ap (first_of e) p ∙ z)
    at p q z (no n) = inl (ap (λ l. first_of l v) (set_out e x first (omega (arith, n))))

    found : s x ≡ true → first_of e x ≡ 0 → Dec (v ≡ x) → G true
    found q z (yes p) = at p q z (dec_lt x (length e))
    found q z (no n) = inl (get_or-set_other e x v first 0 n)

    go : (b : Bool) → Says b ((s x ≡ true) × (first_of e x ≡ 0)) → G b
    go true p = let q = p.0 refl in found q.0 q.1 (ℕ_discrete v x)
    go false p = inl refl

pub held_after : (β : ℕ → Bounds) (ρ : Valuation) (s : ℕ → Bool) (first : ℕ) (e : Encoded) (xs : List ℕ) → Held β ρ e →
    (any s xs ≡ true → (x : ℕ) → Member x xs → first_of e x ≡ 0 → Bits β ρ x first) → Held β ρ (encoded_after s first e xs)
held_after β ρ s first e xs h new v n =
    elim (entered s first e xs v) [
      | inl p ↦ subst (Bits β ρ v) (sym p) (h v (λ z. n (p ∙ z)))
      | inr p ↦ subst (Bits β ρ v) (sym p.0) (new p.1 v p.2 p.3)
    ]

module _ (β : ℕ → Bounds) (e : Encoded) (x : ℕ) (ρ α : Valuation) where
  -- the value of the bit of x's k-th value
  abbrev pub bit_value : Valuation
  bit_value k = see ρ α (aux k if eqb (first_of e x) 0 else source (first_of e x + k))

  abbrev pub Coded : Type 0
  Coded = Chooses (values (β x)) bit_value (ρ x)

  -- a sum over the bits of the values that pass a test
  pub kept-value : Coded → (w : ℤ → ℤ) (t : ℤ → Bool) → dot (see ρ α) (kept β e w t x) ≡ (w (ρ x) if t (ρ x) else +0)
  unfolding kept value_bit values width
  kept-value c w t =
      dot-kept w t (λ k. (β x).lower ⊕ pos k) _ (value_bit β e x) (see ρ α) bit_value (λ k. ap bit_value (count-from (β x).lower k))
      ∙ c.1 (λ v. w v if t v else +0)

  -- the last row of 24 and 28
  pub kept_sum-law : Coded → (w : ℤ → ℤ) (t : ℤ → Bool) (y : ℕ) → Sat (see ρ α) (kept_sum β e w t x y) ↔ ((w (ρ x) if t (ρ x) else +0) ≡ ρ y)
  unfolding kept_sum
  kept_sum-law c w t y = rw (dot-append (see ρ α) (kept β e w t x), kept-value c w t) (less-variable _ _)

  -- the row of what is left out, or none, says that the value passes the test
  pub left_out-law : Coded → (t : ℤ → Bool) → All (Sat (see ρ α)) (left_out β e t x) ↔ (t (ρ x) ≡ true)
  unfolding left_out
  left_out-law c t = go (all t (values (β x))) (says_all t (λ v. t v ≡ true) (λ v. (λ p. p, λ p. p)) (values (β x)))
    where
      row : (b : Bool) → ((+1 if not b else +0) ⊕ +0 ≡ +0) ↔ (b ≡ true)
      row true = (λ p. refl, λ p. simp linear (omega arith))
      row false = (λ p. absurd (wrong p), λ p. false-true p)
        where
          wrong : +1 ⊕ +0 ≡ +0 → ⊥
          wrong = simp linear (omega arith)

      go : (b : Bool) → Says b (All (λ v. t v ≡ true) (values (β x))) → All (Sat (see ρ α)) ([] if b else sum=0 (kept β e one (λ v. not (t v)) x) +0 ∷ []) ↔ (t (ρ x) ≡ true)
      go true s = (λ h. (all-members (λ v. t v ≡ true) (values (β x))).0 (s.0 refl) (ρ x) c.0, λ p. tt)
      go false s = let r = rw (← kept-value c one (λ v. not (t v))) at (row (t (ρ x))) in (λ h. r.0 h.0, λ p. (r.1 p, tt))

  -- the bit of a value is 1 where it is the variable's
  pub exact : Coded → (l : ℤ) → In (β x) l → see ρ α (value_bit β e x l) ≡ bit_of (l ≟ ρ x)
  unfolding kept bit_of
  exact c l h =
      alone _ ∙ (rw (keep_one (β x) l h) at (kept-value c one (λ v. l ≟ v)))
    where
      alone : (a : ℤ) → a ≡ +1 ⊗ a ⊕ +0
      alone = simp linear (omega arith)

  -- the rows of the first of the constraints, or what the record says
  pub coded-sound : (¬ (first_of e x ≡ 0) → Bits β ρ x (first_of e x)) → Keeps (new_bits β e x) α → All (Sat (see ρ α)) (new_rows β e x) → Coded
  unfolding new_bits new_rows
  coded-sound held = go (eqb (first_of e x) 0) (says-eqb (first_of e x) 0)
    where
      go : (b : Bool) → Says b (first_of e x ≡ 0) → Keeps (bits (values (β x)) if b else []) α →
          All (Sat (see ρ α)) (one_bit (values (β x)) ∷ chosen (λ v. v) (values (β x)) 0 x ∷ [] if b else []) →
          Chooses (values (β x)) (λ k. see ρ α (aux k if b else source (first_of e x + k))) (ρ x)
      go true s k h = chosen-value (values (β x)) ρ α x (one_hot_sound (values (β x)) ρ α k h.0) h.1.0
      go false s k h = held (λ z. false-true (s.1 z))

  -- the new bits are the picks
  pub new_determined : Keeps (new_bits β e x) α → All (Sat (see ρ α)) (new_rows β e x) → Are (new_pick β e ρ x) α
  unfolding new_bits new_rows new_pick
  new_determined = go (eqb (first_of e x) 0)
    where
      go : (b : Bool) → Keeps (bits (values (β x)) if b else []) α →
          All (Sat (see ρ α)) (one_bit (values (β x)) ∷ chosen (λ v. v) (values (β x)) 0 x ∷ [] if b else []) →
          Are (first_bit (λ v. v ≟ ρ x) (values (β x)) if b else []) α
      go true k h = value-bits (values (β x)) ρ α x (values_distinct (β x)) k h.0 h.1.0
      go false k h = tt

  -- where the block has the bits, they are its auxiliaries from 0 on
  pub coded-own : first_of e x ≡ 0 → Coded → Chooses (values (β x)) α (ρ x)
  coded-own z = go (eqb (first_of e x) 0) (eq-eqb (first_of e x) 0 z)
    where
      go : (b : Bool) → b ≡ true → Chooses (values (β x)) (λ k. see ρ α (aux k if b else source (first_of e x + k))) (ρ x) → Chooses (values (β x)) α (ρ x)
      go true p c = c
      go false p c = false-true p

module _ (β : ℕ → Bounds) (e : Encoded) (x : ℕ) (ρ : Valuation) where
  -- the picked bits, followed by anything
  pub coded-complete : (¬ (first_of e x ≡ 0) → Bits β ρ x (first_of e x)) → In (β x) (ρ x) → (rest : List ℤ) → let α = value (new_pick β e ρ x ++ rest) in
      Keeps (new_bits β e x) α × All (Sat (see ρ α)) (new_rows β e x) × Coded β e x ρ α
  unfolding new_bits new_rows new_pick
  coded-complete held h rest = go (eqb (first_of e x) 0) (says-eqb (first_of e x) 0)
    where
      vs : List ℤ
      vs = values (β x)

      Alpha : Bool → Valuation
      Alpha b = value ((first_bit (λ v. v ≟ ρ x) vs if b else []) ++ rest)

      go : (b : Bool) → Says b (first_of e x ≡ 0) →
          Keeps (bits vs if b else []) (Alpha b)
          × All (Sat (see ρ (Alpha b))) (one_bit vs ∷ chosen (λ v. v) vs 0 x ∷ [] if b else [])
          × Chooses vs (λ k. see ρ (Alpha b) (aux k if b else source (first_of e x + k))) (ρ x)
      go true s =
          let p = one_hot_complete (λ v. v ≟ ρ x) vs rest (member-passes (ρ x) vs ((values-member (β x) (ρ x)).1 h)) in
          let c = picked_value vs (Alpha true) (ρ x) p.1 in
          (p.0, (chosen-one vs ρ (Alpha true) (ρ x) c, ((chosen_at vs ρ (Alpha true) (ρ x) c (λ v. v) x).1 refl, tt)), c)
      go false s = (tt, tt, held (λ z. false-true (s.1 z)))

  -- a pick for each new bit
  pub new_filled : length (new_pick β e ρ x) ≡ length (new_bits β e x)
  unfolding new_bits new_pick
  new_filled = go (eqb (first_of e x) 0)
    where
      go : (b : Bool) → length (first_bit (λ v. v ≟ ρ x) (values (β x)) if b else []) ≡ length (bits (values (β x)) if b else [])
      go true = bits-filled (λ v. v ≟ ρ x) (values (β x))
      go false = refl
