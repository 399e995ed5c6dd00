-- Words that judge-rows accepts have no upper bound below its lower one.
use Rattle.std.proofs.Common.{◌≡◌, refl, ◌⊎◌, inl, inr, Bool, true, false, not, List, [], ◌∷◌, ℕ, ◌+◌, arith, ltb, eqb, pos, length}
use lib.Signed.{lt_z}
use Rattle.integers.specs.Choice.{◌if◌else◌}
use Rattle.integers.specs.Bounds.{◌to◌, bit}
use Rattle.integers.specs.declared.Bounds.{Bounds}
use Rattle.integers.proofs.Linear.{◌⊑◌, arith_z}
use Rattle.integers.proofs.Tests.{All, not-below}
use Rattle.words.specs.Word.{kind, signed, too_low, word_at}
use Rattle.words.specs.Kind as Kind
use Rattle.words.specs.Fault as Fault
use Rattle.words.specs.Limit as Limit
use Rattle.words.specs.Variables.{starts_pair, variables}
use Rattle.words.specs.Refusal.{accepted, first_fault, ◌at_place◌}
use Rattle.words.proofs.Reading.{passed}
use Rattle.rowsystems.specs.declared.Due.{Due}
use Rattle.rowsystems.specs.declared.Due.TheVariants.{Source, SourceUpper, Item, AuxiliaryUpper}
use Rattle.rowsystems.specs.Reading.{State, fault, fault_due, fault_item, fault_upper, after, after_due, after_item, ended, fault_end, begin, read_rows}
use Rattle.rowsystems.proofs.Starts.{Pair, pair-kind, at_head}

abbrev pub Ordered : Bounds → Type 0
Ordered B = B.lower ⊑ B.upper

-- ---- a lower bound

-- after it an upper bound is due
abbrev Upper : ℕ → Due → Type 0
Upper w d = (d ≡ SourceUpper w) ⊎ (d ≡ AuxiliaryUpper w)

after_is : (s : State) (w : ℕ) (ws : List ℕ) → Pair (kind w) → fault s w ws ≡ 0 → Upper w (after s w).due
unfolding fault after fault_due fault_item after_due after_item
after_is s w ws k e = go s.due (at_head s.due s.variables w ws (inl k) e) k e
  where
    go : (d : Due) → (d ≡ Source) ⊎ (d ≡ Item) → Pair (kind w) → fault_due d s.variables w ws ≡ 0 → Upper w (after_due d w)
    go d (inl h) (inl k) e = inl (rw (h, k))
    go d (inl h) (inr k) e = inr (rw (h, k))
    go d (inr h) (inl k) e = absurd (let f = rw (h, k) at e in omega arith)
    go d (inr h) (inr k) e = inr (rw (h, k))

-- an upper bound without a fault is not below the lower one
upper-fine : (k l w : ℕ) → fault_upper k l w ≡ 0 → signed l ⊑ signed w
unfolding fault_upper
upper-fine k l w e = go (eqb (kind w) k) (too_low Limit.range w) (lt_z (signed w) (signed l)) refl e
  where
    go : (t d u : Bool) → lt_z (signed w) (signed l) ≡ u →
        (Fault.wrong_kind if not t else Fault.lowest_number if d else Fault.upper_below_lower if u else Fault.none) ≡ 0 → signed l ⊑ signed w
    go true true u q e = absurd (omega arith)
    go true false true q e = absurd (omega arith)
    go true false false q e = not-below (signed w) (signed l) q
    go false d u q e = absurd (omega arith)

-- the words after a lower bound begin with an upper one that is not below it
next-fine : (d : Due) (n p l : ℕ) (ws : List ℕ) → Upper l d → first_fault fault after ended (record { due = d; variables = n }) p ws ≡ accepted → signed l ⊑ signed (word_at ws 0)
unfolding first_fault fault fault_due ended fault_end word_at
next-fine d n p l [] (inl u) e = absurd (let f = (passed 2 p accepted (rw u at e)).0 in omega arith)
next-fine d n p l [] (inr u) e = absurd (let f = (passed 2 p accepted (rw u at e)).0 in omega arith)
next-fine d n p l (w ∷ ws) (inl u) e = upper-fine Kind.upper l w (passed _ p _ (rw u at e)).0
next-fine d n p l (w ∷ ws) (inr u) e = upper-fine Kind.auxiliary_upper l w (passed _ p _ (rw u at e)).0

reading-ordered : (s : State) (p : ℕ) (ws : List ℕ) → first_fault fault after ended s p ws ≡ accepted → All Ordered (variables ws)
unfolding first_fault variables
reading-ordered s p [] e = tt
reading-ordered s p (w ∷ ws) e =
    let k = passed (fault s w ws) p (first_fault fault after ended (after s w) (p + 1) ws) e in
    go (starts_pair w) refl (eqb (kind w) Kind.boolean) k.0 k.1 (reading-ordered (after s w) (p + 1) ws k.1)
  where
    zero_one_ordered : pos 0 ⊑ pos 1
    zero_one_ordered = omega arith_z

    due-after : starts_pair w ≡ true → fault s w ws ≡ 0 → first_fault fault after ended (after s w) (p + 1) ws ≡ accepted → signed w ⊑ signed (word_at ws 0)
    due-after q f g = next-fine (after s w).due (after s w).variables (p + 1) w ws (upper-due q f) g
      where
        upper-due : starts_pair w ≡ true → fault s w ws ≡ 0 → Upper w (after s w).due
        upper-due q f = after_is s w ws (pair-kind w q) f

    go : (t : Bool) → starts_pair w ≡ t → (u : Bool) → fault s w ws ≡ 0 → first_fault fault after ended (after s w) (p + 1) ws ≡ accepted → All Ordered (variables ws) →
        All Ordered ((signed w to signed (word_at ws 0)) ∷ variables ws if t else bit ∷ variables ws if u else variables ws)
    go true q u f g r = (due-after q f g, r)
    go false q true f g r = (zero_one_ordered, r)
    go false q false f g r = r

pub accepted-ordered : (ws : List ℕ) → read_rows ws ≡ accepted → All Ordered (variables ws)
unfolding read_rows
accepted-ordered ws e = go (ltb Limit.row_words (length ws)) e
  where
    go : (t : Bool) → (Fault.too_many_words at_place 0 if t else first_fault fault after ended begin 0 ws) ≡ accepted → All Ordered (variables ws)
    go true e = absurd (let f = (passed 1 0 accepted e).0 in omega arith)
    go false e = reading-ordered begin 0 ws e
