-- Words in which the reader of a model finds no fault: what that says of one word after the other, for the form of accepted words.
use Rattle.std.proofs.Common.{◌≡◌, refl, inl, inr, ◌≢◌, Bool, true, false, not, ◌||◌, List, [], ◌∷◌, append-nil, ℕ, ◌+◌, ◌≤◌, ◌<◌, arith, add-zero, add-one, ltb, leb, eqb, length, get_or, drop, drop_of_length-le, drop-cons, ltb-true, ltb-false, leb-false, eqb-true, ne_eqb}
use lib.Signed.{lt_z}
use borrow.Author.Tests.{eqb-false, not-false}
use Rattle.integers.specs.Choice.{◌if◌else◌}
use Rattle.integers.proofs.Linear.{◌⊑◌}
use Rattle.integers.proofs.Booleans.{neither}
use Rattle.integers.proofs.Tests.{not-below}
use Rattle.words.specs.Word.{kind, payload, signed, in_range, word_at}
use Rattle.words.specs.Check.{fault_number_in}
use Rattle.words.specs.Fault as Fault
use Rattle.words.specs.Limit as Limit
use Rattle.words.specs.Refusal.{accepted, first_fault}
use Rattle.words.proofs.Reading.{passed}
use Rattle.words.proofs.Choices.{not_first, not-second, either, of-kind, of_range}
use Rattle.models.specs.Table as Table
use Rattle.models.specs.Reading.{State, fault_head, fault_start_in, fault_upper_in, fault_variable, fault_count_in, after_due, declared, started, after, ended}
use Rattle.models.specs.InRange.{fault_start, fault_upper, fault_count, fault}
use Rattle.models.specs.declared.Due.{Due}

-- ---- no fault in the words, from a state on

abbrev pub Sound : State → List ℕ → Type 0
Sound s [] = ended s ≡ 0
Sound s (w ∷ ws) = (fault s w ws ≡ 0) × Sound (after s w) ws

pub sound : (ws : List ℕ) (s : State) (p : ℕ) → first_fault fault after ended s p ws ≡ accepted → Sound s ws
unfolding first_fault
sound [] s p e = (passed (ended s) p accepted e).0
sound (w ∷ ws) s p e = let h = passed (fault s w ws) p _ e in (h.0, sound ws (after s w) (p + 1) h.1)

-- ---- one word without a fault

module _ (w : ℕ) where
  pub is-number : fault_number_in Limit.range w ≡ 0 → kind w ≡ 6
  unfolding fault_number_in
  is-number e = (of-kind w 6 _ e).0

  pub is-variable : (t type : ℕ) → fault_variable t type w ≡ 0 → (kind w ≡ 5) × (t ≡ type)
  unfolding fault_variable
  is-variable t type e = let h = of-kind w 5 _ e in (h.0, eqb-true _ _ (not-false _ (not_first 9 (not (eqb t type)) 0 h.1).0))

  pub is-count : (most : ℕ) → fault_count most w ≡ 0 → (kind w ≡ 6) × (payload w ≤ most)
  unfolding fault_count_in
  is-count most e = let h = of-kind w 6 _ e in (h.0, ltb-false _ _ (not_first 8 (ltb most (payload w)) 0 (of_range w _ h.1).1).0)

  pub is-upper : (l : ℕ) → fault_upper l w ≡ 0 → (kind w ≡ 2) × (signed l ⊑ signed w) × (in_range (signed w) ≡ true)
  unfolding fault_upper_in
  is-upper l e =
      let h = of-kind w 2 _ e in
      let r = of_range w _ h.1 in
      (h.0, not-below _ _ (not_first 3 (lt_z (signed w) (signed l)) 0 r.1).0, r.0)

-- where a constraint or the end may stand, after c constraints
pub data Head (c w : ℕ) : Type 0 where
  at-constraint : c < 256 → kind w ≡ 4 → 1 ≤ payload w → payload w ≤ Table.last → Head c w
  at-end : kind w ≡ 7 → Head c w

pub is-head : (c w : ℕ) → fault_head c w ≡ 0 → Head c w
unfolding fault_head
is-head c w e = elim (either _ (eqb (kind w) 4) _ e) [ inl h ↦ one h.0 h.1 | inr h ↦ at-end (eqb-true _ _ (not-second _ (eqb (kind w) 7) 2 h.1).0) ]
  where
    one : eqb (kind w) 4 ≡ true → (Fault.too_many_constraints if leb 256 c else Fault.unknown_code if eqb (payload w) 0 || ltb Table.last (payload w) else Fault.none) ≡ 0 → Head c w
    one t e =
        let h = not_first 6 (leb 256 c) _ e in
        let k = neither _ _ (not_first 7 (eqb (payload w) 0 || ltb Table.last (payload w)) 0 h.1).0 in
        at-constraint (omega (arith, leb-false 256 c h.0)) (eqb-true _ _ t) (omega (arith, eqb-false (payload w) 0 k.0)) (ltb-false _ _ k.1)

-- where a variable may stand too, after v variables
pub data Start (v c w : ℕ) : Type 0 where
  at-lower : v < 256 → kind w ≡ 1 → in_range (signed w) ≡ true → Start v c w
  at-boolean : v < 256 → kind w ≡ 3 → payload w ≡ 0 → Start v c w
  at_head : kind w ≢ 1 → kind w ≢ 3 → fault_head c w ≡ 0 → Start v c w

pub is-start : (v c w : ℕ) → fault_start v c w ≡ 0 → Start v c w
unfolding fault_start_in
is-start v c w e = elim (either _ (eqb (kind w) 1) _ e) [
  | inl h ↦ let r = of_range w _ h.1 in at-lower (leb-false 256 v (not_first 5 (leb 256 v) 0 r.1).0) (eqb-true _ _ h.0) r.0
  | inr h ↦ elim (either _ (eqb (kind w) 3) _ h.1) [
    | inl k ↦ let l = not_first 4 (ltb 0 (payload w)) _ k.1 in
        at-boolean (leb-false 256 v (not_first 5 (leb 256 v) 0 l.1).0) (eqb-true _ _ k.0) (omega (arith, ltb-false 0 (payload w) l.0))
    | inr k ↦ at_head (eqb-false _ _ h.0) (eqb-false _ _ k.0) k.1
  ]
]

-- ---- the word at a place, where the words may not end yet

abbrev pub reading : Due → List ℕ → ℕ → State
reading d ts c = record { due = d; types = ts; constraints = c }

-- a word that starts neither a variable nor a constraint: after it only what is due has changed
pub record Plain (w : ℕ) : Type 0 where
  pub low : 5 ≤ kind w
  pub high : kind w ≤ 7

pub plain : {n w : ℕ} → kind w ≡ n → 5 ≤ n → n ≤ 7 → Plain w
plain e l h = record { low = omega arith; high = omega arith }

pub after-plain : (d : Due) (ts : List ℕ) (c w : ℕ) → Plain w → after (reading d ts c) w ≡ reading (after_due d w) ts c
unfolding after declared started
after-plain d ts c w h =
    rw (ne_eqb (kind w) 1 (λ e. omega (arith, h.low)), ne_eqb (kind w) 3 (λ e. omega (arith, h.low)), ne_eqb (kind w) 4 (λ e. omega (arith, h.low)), append-nil ts, add-zero c)

pub record Turn (s : State) (ws : List ℕ) (i : ℕ) : Type 0 where
  pub here : i < length ws
  pub faultless : fault s (word_at ws i) (drop (i + 1) ws) ≡ 0
  pub onward : Sound (after s (word_at ws i)) (drop (i + 1) ws)

pub turn : (s : State) (ws : List ℕ) (i : ℕ) → ended s ≢ 0 → Sound s (drop i ws) → Turn s ws i
unfolding word_at
turn s ws i n h = go (ltb i (length ws)) refl
  where
    go : (t : Bool) → ltb i (length ws) ≡ t → Turn s ws i
    go true e =
        let l : i < length ws = ltb-true _ _ e in
        let k : Sound s (get_or ws i 0 ∷ drop (i + 1) ws) = rw add-one (rw (drop-cons ws i 0 l) at h) in
        record { here = l; faultless = k.0; onward = k.1 }
    go false e = absurd (n (rw (drop_of_length-le ws (ltb-false _ _ e)) at h))
