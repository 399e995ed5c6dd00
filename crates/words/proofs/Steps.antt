-- A step over a word that was tested: by its fault, and what the function answers that takes it.
use Rattle.std.proofs.Common.{◌≡◌, refl, ap, sym, ◌∙◌, Bool, true, false, ℕ, ◌+◌, eq-eqb, ne_eqb, eqb, Result, Ok, Err}
use borrow.Author.Tests.{eqb-false}
use Rattle.integers.specs.Choice.{◌if◌else◌}
use Rattle.words.specs.Check.{Step, step_of, step_over}
use Rattle.words.specs.Fault as Fault
use Rattle.words.specs.declared.fault.Refusal as error
use Rattle.words.proofs.Faulty.{fault-number}

-- ---- by its fault

pub over_none : (f at : ℕ) → f ≡ 0 → step_over f at ≡ record { number = f; at = at + 1 }
unfolding step_over
over_none f at e = rw (eq-eqb f Fault.none e)

pub over-fault : (f at : ℕ) → (f ≡ 0 → ⊥) → step_over f at ≡ record { number = f; at = at }
unfolding step_over
over-fault f at e = rw (ne_eqb f Fault.none e)

pub stepped : (f at : ℕ) → (step_over f at).number ≡ 0 → (f ≡ 0) × ((step_over f at).at ≡ at + 1)
unfolding step_over
stepped f at = go (eqb f Fault.none) refl
  where
    over : Bool → Step
    over b = record { number = f; at = at + 1 } if b else record { number = f; at = at }

    go : (b : Bool) → eqb f Fault.none ≡ b → (over b).number ≡ 0 → (f ≡ 0) × ((over b).at ≡ at + 1)
    go true q e = (e, refl)
    go false q e = absurd (eqb-false f Fault.none q e)

-- ---- what is answered: the place after the word, or its fault

module _ {r : Result ℕ error.Refusal} (f at : ℕ) (e : step_of r ≡ step_over f at) where
  pub passed : {k : ℕ} → r ≡ Ok k → (f ≡ 0) × (k ≡ at + 1)
  passed {k} q =
      let o : ◌≡◌ {A = Step} (record { number = 0; at = k }) (step_over f at) = rw q at e in
      let s = stepped f at (ap (λ (s : Step). s.number) (sym o)) in
      (s.0, ap (λ (s : Step). s.at) o ∙ s.1)

  pub refused : {x : error.Refusal} → r ≡ Err x → (f ≡ 0 → ⊥) × (step_of (Err x) ≡ record { number = f; at = at })
  refused {x} q =
      let o : step_of (Err x) ≡ step_over f at = rw q at e in
      let z : f ≡ 0 → ⊥ = λ y. fault-number x.fault (ap (λ (s : Step). s.number) (o ∙ over_none f at y) ∙ y) in
      (z, o ∙ over-fault f at z)
