-- Steps that functions answer: past what is read, or out by a refusal; and what a word without a fault says.
use Rattle.std.proofs.Common.{◌≡◌, refl, sym, Bool, true, false, not, List, ℕ, ◌+◌, ◌<◌, arith, leb-false, leb, eqb, Result, Ok, Err}
use Rattle.std.specs.Prelude.{IfOk}
use Rattle.integers.specs.Choice.{◌if◌else◌}
use Rattle.words.specs.Fault as Fault
use Rattle.words.specs.Kind as Kind
use Rattle.words.specs.Word.{kind, payload}
use Rattle.words.specs.declared.fault.Refusal.{Refusal}
use Rattle.words.specs.Check.{Step, step_of, step_over}
use Rattle.words.proofs.Faulty.{fault-number}
use Rattle.words.proofs.Steps as words
use Rattle.rowsystems.specs.Reading.{fault_variable, not_above, fault_result}
use Rattle.rowsystems.specs.declared.Due.{Due}
use Rattle.rowreading.specs.Onward.{is_ended, StepsTo}
use Rattle.rowreading.proofs.Steps.{and_then, or-halted}

module _ {ws : List ℕ} {n : ℕ} {a b : Due} {at : ℕ} {r : Result ℕ Refusal} (g : StepsTo ws n a at b (step_of r)) where
  pub step-on : {k : ℕ} → r ≡ Ok k → StepsTo ws n a at b (step_of (Ok k))
  step-on e = rw e at g

  pub step-out : {e : Refusal} {c : Due} → r ≡ Err e → StepsTo ws n a at c (step_of (Err e))
  step-out q = or-halted (step_err q) (fault-number _)
    where
      step_err : {e : Refusal} → r ≡ Err e → StepsTo ws n a at b (step_of (Err e))
      step_err q = rw q at g

  -- where what is due between is not the end
  pub step-then : {k : ℕ} {c : Due} {s : Step} → is_ended b ≡ false → r ≡ Ok k → StepsTo ws n b k c s → StepsTo ws n a at c s
  step-then d e h = and_then (step-on e) d refl h

-- a word that is passed has no fault
pub passed : (r : Result ℕ Refusal) (f at : ℕ) → step_of r ≡ step_over f at → IfOk r (λ k. (0 ≡ f) × (k ≡ at + 1))
passed (Err e) f at g = tt
passed (Ok k) f at g = let p = words.passed f at g refl in (sym p.0, p.1)

pub passed_to : {r : Result ℕ Refusal} (f at : ℕ) {k : ℕ} → step_of r ≡ step_over f at → r ≡ Ok k → (0 ≡ f) × (k ≡ at + 1)
passed_to {r} f at {k} g e = passed (Ok k) f at (rw e at g)

-- a variable without a fault is declared
named : (n w x : ℕ) → 0 ≡ (Fault.wrong_kind if not (eqb (kind w) Kind.variable) else Fault.not_declared if leb n (payload w) else x) → payload w < n
named n w x e = go (eqb (kind w) Kind.variable) (leb n (payload w)) refl e
  where
    go : (a b : Bool) → leb n (payload w) ≡ b → 0 ≡ (Fault.wrong_kind if not a else Fault.not_declared if b else x) → payload w < n
    go true true q e = absurd (omega arith)
    go true false q e = omega (arith, leb-false n (payload w) q)
    go false b q e = absurd (omega arith)

pub declared : (n w : ℕ) → 0 ≡ fault_variable n w → payload w < n
unfolding fault_variable
declared n w e = named n w Fault.none e

pub declared-result : (n w f g : ℕ) → 0 ≡ fault_result n w f g → payload w < n
unfolding fault_result
declared-result n w f g e = named n w (Fault.result_not_above if not_above w f g else Fault.none) e
