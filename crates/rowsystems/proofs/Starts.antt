-- A word that starts a variable has a fault wherever no head is due.
use Rattle.std.proofs.Common.{◌≡◌, refl, sym, ◌∙◌, ◌⊎◌, inl, inr, ⊎_elim, Bool, true, false, not, ◌||◌, List, ℕ, arith, ltb, eqb, eqb-true}
use Rattle.integers.specs.Choice.{◌if◌else◌}
use Rattle.words.specs.Word.{kind}
use Rattle.words.specs.Kind as Kind
use Rattle.words.specs.Check.{fault_number_in}
use Rattle.words.specs.Fault as Fault
use Rattle.words.specs.Limit as Limit
use Rattle.words.specs.Variables.{starts_pair}
use Rattle.rowsystems.specs.declared.Due.{Due}
use Rattle.rowsystems.specs.declared.Due.TheVariants.{Source, SourceUpper, Item, AuxiliaryUpper, Terms, Coefficient, Result, FirstFactor, SecondFactor, Ended}
use Rattle.rowsystems.specs.Reading.{fault_due, fault_upper, fault_variable, fault_result}

-- a lower bound's kinds, and those that start a variable
abbrev pub Pair : ℕ → Type 0
Pair k = (k ≡ 1) ⊎ (k ≡ 8)

abbrev pub Starts : ℕ → Type 0
Starts k = Pair k ⊎ (k ≡ 3)

pub pair-kind : (w : ℕ) → starts_pair w ≡ true → Pair (kind w)
unfolding starts_pair
pair-kind w e = go (eqb (kind w) 1) refl e
  where
    go : (t : Bool) → eqb (kind w) 1 ≡ t → (t || eqb (kind w) 8) ≡ true → Pair (kind w)
    go true q e = inl (eqb-true (kind w) 1 q)
    go false q e = inr (eqb-true (kind w) 8 e)

pub starting : (w : ℕ) → (starts_pair w || eqb (kind w) Kind.boolean) ≡ true → Starts (kind w)
starting w e = go (starts_pair w) refl e
  where
    go : (t : Bool) → starts_pair w ≡ t → (t || eqb (kind w) 3) ≡ true → Starts (kind w)
    go true q e = inl (pair-kind w q)
    go false q e = inr (eqb-true (kind w) 3 e)

-- where another kind is due
other : (k l x : ℕ) → Starts k → ¬ (l ≡ 1) × ¬ (l ≡ 8) × ¬ (l ≡ 3) → (Fault.wrong_kind if not (eqb k l) else x) ≡ 0 → ⊥
other k l x s n e = go (eqb k l) refl e
  where
    go : (t : Bool) → eqb k l ≡ t → (Fault.wrong_kind if not t else x) ≡ 0 → ⊥
    go true q e = let m = sym (eqb-true k l q) in ⊎_elim (⊎_elim (λ h. n.0 (m ∙ h)) (λ h. n.1 (m ∙ h))) (λ h. n.2 (m ∙ h)) s
    go false q e = omega arith

pub at_head : (d : Due) (n w : ℕ) (ws : List ℕ) → Starts (kind w) → fault_due d n w ws ≡ 0 → (d ≡ Source) ⊎ (d ≡ Item)
unfolding fault_due fault_upper fault_variable fault_number_in fault_result
at_head Source n w ws s e = inl refl
at_head (SourceUpper l) n w ws s e = absurd (other (kind w) Kind.upper _ s (omega arith) e)
at_head Item n w ws s e = inr refl
at_head (AuxiliaryUpper l) n w ws s e = absurd (other (kind w) Kind.auxiliary_upper _ s (omega arith) e)
at_head (Terms l) n w ws s e = absurd (go (ltb 0 l) e)
  where
    go : (t : Bool) → (fault_variable n w if t else fault_number_in Limit.range w) ≡ 0 → ⊥
    go true = other (kind w) Kind.variable _ s (omega arith)
    go false = other (kind w) Kind.number _ s (omega arith)
at_head (Coefficient l) n w ws s e = absurd (other (kind w) Kind.number _ s (omega arith) e)
at_head Result n w ws s e = absurd (other (kind w) Kind.variable _ s (omega arith) e)
at_head FirstFactor n w ws s e = absurd (other (kind w) Kind.variable _ s (omega arith) e)
at_head SecondFactor n w ws s e = absurd (other (kind w) Kind.variable _ s (omega arith) e)
at_head Ended n w ws s e = absurd (let f : 11 ≡ 0 = e in omega arith)
