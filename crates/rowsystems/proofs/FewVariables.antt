-- Accepted row words have at most 4,096 variables, auxiliaries among them.
use Rattle.std.proofs.Common.{◌≡◌, refl, ◌⊎◌, inl, inr, Bool, true, false, ◌||◌, List, [], ◌∷◌, ℕ, suc, ◌+◌, ◌≤◌, ◌<◌, arith, ltb, leb, eqb, length, leb-false}
use Rattle.integers.specs.Choice.{◌if◌else◌}
use Rattle.integers.specs.Bounds.{◌to◌, bit}
use Rattle.words.specs.Word.{kind, payload, signed, too_low, word_at}
use Rattle.words.specs.Kind as Kind
use Rattle.words.specs.Fault as Fault
use Rattle.words.specs.Limit as Limit
use Rattle.words.specs.Variables.{starts_pair, variables}
use Rattle.words.specs.Refusal.{accepted, first_fault, ◌at_place◌}
use Rattle.words.proofs.Reading.{passed}
use Rattle.rowsystems.specs.declared.Due.{Due}
use Rattle.rowsystems.specs.declared.Due.TheVariants.{Source, Item}
use Rattle.rowsystems.specs.Reading.{State, fault, fault_due, fault_lower, fault_item, fault_source, after, started, ended, begin, read_rows}
use Rattle.rowsystems.proofs.Starts.{Starts, starting, at_head}

-- a limit that is not reached
below : (n : ℕ) (t : Bool) (a : ℕ) → ((suc a) if t else Fault.too_many_in_all if leb Limit.in_all n else Fault.none) ≡ 0 → n < 4096
below n true a e = absurd (omega arith)
below n false a e = go (leb Limit.in_all n) refl e
  where
    go : (t : Bool) → leb Limit.in_all n ≡ t → (Fault.too_many_in_all if t else Fault.none) ≡ 0 → n < 4096
    go true q e = absurd (omega arith)
    go false q e = omega (arith, leb-false)

starts-few : (d : Due) (n w : ℕ) (ws : List ℕ) → Starts (kind w) → fault_due d n w ws ≡ 0 → n < 4096
unfolding fault_due fault_source fault_item fault_lower
starts-few d n w ws s e = go s (at_head d n w ws s e) e
  where
    go : Starts (kind w) → (d ≡ Source) ⊎ (d ≡ Item) → fault_due d n w ws ≡ 0 → n < 4096
    go (inl (inl k)) (inl h) e = below n (too_low Limit.range w) 17 (rw (h, k) at e)
    go (inl (inr k)) (inl h) e = below n (too_low Limit.range w) 17 (rw (h, k) at e)
    go (inr k) (inl h) e = below n (ltb 0 (payload w)) 4 (rw (h, k) at e)
    go (inl (inl k)) (inr h) e = absurd (let f = rw (h, k) at e in omega arith)
    go (inl (inr k)) (inr h) e = below n (too_low Limit.range w) 17 (rw (h, k) at e)
    go (inr k) (inr h) e = absurd (let f = rw (h, k) at e in omega arith)

reading-few : (s : State) (p : ℕ) (ws : List ℕ) → first_fault fault after ended s p ws ≡ accepted → s.variables ≤ 4096 → s.variables + length (variables ws) ≤ 4096
unfolding first_fault variables fault after started
reading-few s p [] e h = omega arith
reading-few s p (w ∷ ws) e h =
    let k = passed (fault_due s.due s.variables w ws) p (first_fault fault after ended (after s w) (p + 1) ws) e in
    go (starts_pair w) (eqb (kind w) Kind.boolean) (λ q. starts-few s.due s.variables w ws (starting w q) k.0) refl refl (reading-few (after s w) (p + 1) ws k.1)
  where
    go : (t u : Bool) → ((starts_pair w || eqb (kind w) Kind.boolean) ≡ true → s.variables < 4096) → starts_pair w ≡ t → eqb (kind w) Kind.boolean ≡ u →
        (s.variables + (1 if starts_pair w || eqb (kind w) Kind.boolean else 0) ≤ 4096 →
        s.variables + (1 if starts_pair w || eqb (kind w) Kind.boolean else 0) + length (variables ws) ≤ 4096) →
        s.variables + length ((signed w to signed (word_at ws 0)) ∷ variables ws if t else bit ∷ variables ws if u else variables ws) ≤ 4096
    go true u f q r g =
        let b = f (rw q refl) in
        let i = rw q at g in
        omega (arith, i (omega arith))
    go false true f q r g =
        let b = f (rw (q, r) refl) in
        let i = rw (q, r) at g in
        omega (arith, i (omega arith))
    go false false f q r g =
        let i = rw (q, r) at g in
        omega (arith, i (omega arith))

pub few-variables : (ws : List ℕ) → read_rows ws ≡ accepted → length (variables ws) ≤ 4096
unfolding read_rows
few-variables ws e = go (ltb Limit.row_words (length ws)) e
  where
    go : (t : Bool) → (Fault.too_many_words at_place 0 if t else first_fault fault after ended begin 0 ws) ≡ accepted → length (variables ws) ≤ 4096
    go true e = absurd (let f = (passed 1 0 accepted e).0 in omega arith)
    go false e = omega (arith, reading-few begin 0 ws e (omega arith))
