-- Each word inside an item, from what is due there to what is due after it.
use Rattle.std.proofs.Common.{◌≡◌, refl, ap, List, ℕ, suc, ◌+◌, ◌-◌, ◌≤◌, arith, lt-ltb, length}
use Rattle.words.specs.Fault as Fault
use Rattle.words.specs.Kind as Kind
use Rattle.words.specs.Limit as Limit
use Rattle.words.specs.Word.{word_at}
use Rattle.words.specs.Check.{fault_number_in, step_over}
use Rattle.words.proofs.Reading.{word-ahead}
use Rattle.rowsystems.specs.Reading.{fault_upper, fault_variable, fault_result, fault_due, after_due}
use Rattle.rowsystems.specs.declared.Due.{Due}
use Rattle.rowsystems.specs.declared.Due.TheVariants.{Source, SourceUpper, Item, AuxiliaryUpper, Terms, Coefficient, Result, FirstFactor, SecondFactor, Ended}
use Rattle.rowreading.specs.Onward.{resumed, StepsTo}
use Rattle.rowreading.proofs.Steps.{step, or-halted}

module _ (ws : List ℕ) (n at : ℕ) (h : at ≤ length ws) where
  abbrev w : ℕ
  w = word_at ws at

  -- of pairs of bounds
  pub source-upper : (lower : ℕ) → StepsTo ws n (SourceUpper lower) at Source (step_over (fault_upper Kind.upper lower w) at)
  unfolding fault_due after_due
  source-upper lower = step tt h refl refl

  pub auxiliary-upper : (lower : ℕ) → StepsTo ws n (AuxiliaryUpper lower) at Item (step_over (fault_upper Kind.auxiliary_upper lower w) at)
  unfolding fault_due after_due
  auxiliary-upper lower = step tt h refl refl

  -- of a row
  pub term-variable : (left : ℕ) → StepsTo ws n (Terms (suc left)) at (Coefficient left) (step_over (fault_variable n w) at)
  unfolding fault_due after_due
  term-variable left =
      let e : suc left - 1 ≡ left = omega arith in
      step tt h (rw (lt-ltb 0 (suc left) (omega arith))) (rw (lt-ltb 0 (suc left) (omega arith)) (ap Coefficient e))

  pub term-coefficient : (left : ℕ) → StepsTo ws n (Coefficient left) at (Terms left) (step_over (fault_number_in Limit.range w) at)
  unfolding fault_due after_due
  term-coefficient left = step tt h refl refl

  pub row-constant : StepsTo ws n (Terms 0) at Item (step_over (fault_number_in Limit.range w) at)
  unfolding fault_due after_due
  row-constant = step tt h refl refl

  -- of a product
  pub product-result : StepsTo ws n Result at FirstFactor (step_over (fault_result n w (word_at ws (at + 1)) (word_at ws (at + 2))) at)
  unfolding fault_due after_due
  product-result = step tt h (rw (word-ahead ws at 0 (at + 1) (omega arith), word-ahead ws at 1 (at + 2) (omega arith))) refl

  pub first-factor : StepsTo ws n FirstFactor at SecondFactor (step_over (fault_variable n w) at)
  unfolding fault_due after_due
  first-factor = step tt h refl refl

  pub second-factor : StepsTo ws n SecondFactor at Item (step_over (fault_variable n w) at)
  unfolding fault_due after_due
  second-factor = step tt h refl refl

  -- of a Boolean variable there is none; after the end there may be none
  pub no_word : {due : Due} → StepsTo ws n due at due (record { number = Fault.none; at = at })
  unfolding resumed
  no_word = record { reads = refl; on = omega arith; inside = h; plain = λ j l k. absurd (omega arith); last = λ (e : ◌≡◌ {A = ℕ} 0 11). absurd (omega arith) }

  pub after-end : {to : Due} → StepsTo ws n Ended at to (step_over Fault.word_after_end at)
  unfolding fault_due after_due step_over
  after-end {to} = or-halted (step {to = Ended} tt h refl refl) (λ (e : ◌≡◌ {A = ℕ} 11 0). omega arith)
