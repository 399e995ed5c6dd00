-- The numbers among a row system's words: all are in the range where the words are accepted.
use Rattle.std.proofs.Common.{◌≡◌, refl, inl, inr, Bool, true, false, ◌||◌, List, ℕ, arith, ltb, eqb, length, eqb-true}
use Rattle.integers.proofs.Tests.{All}
use Rattle.words.specs.Word.{kind}
use Rattle.words.specs.Kind as Kind
use Rattle.words.specs.Check.{fault_number_in}
use Rattle.words.specs.Limit as Limit
use Rattle.words.specs.Refusal.{accepted}
use Rattle.words.proofs.Range.{is_signed, not-signed, NumberIn}
use Rattle.words.proofs.Choices.{not-second, either, of-kind, of_range}
use Rattle.words.proofs.Reading.{not_too_many, each_word}
use Rattle.rowsystems.specs.Reading.{fault_lower, fault_item, fault_source, fault_upper, fault_variable, fault_result, fault_due, fault, after, ended, begin, read_rows}
use Rattle.rowsystems.specs.declared.Due.{Due}
use Rattle.rowsystems.specs.declared.Due.TheVariants.{Source, SourceUpper, Item, AuxiliaryUpper, Terms, Coefficient, Result, FirstFactor, SecondFactor, Ended}

module _ (w : ℕ) where
  -- one of two kinds without a signed payload
  two-kinds : (k m : ℕ) → is_signed k ≡ false → is_signed m ≡ false → (eqb (kind w) k || eqb (kind w) m) ≡ true → NumberIn w
  two-kinds k m f g = go (eqb (kind w) k) refl
    where
      go : (t : Bool) → eqb (kind w) k ≡ t → (t || eqb (kind w) m) ≡ true → NumberIn w
      go true e h = not-signed k (eqb-true _ _ e) f
      go false e h = not-signed m (eqb-true _ _ h) g

  lower_in : (n : ℕ) → fault_lower n w ≡ 0 → NumberIn w
  unfolding fault_lower
  lower_in n e = λ s. (of_range w _ e).0

  item_in : (n : ℕ) → fault_item n w ≡ 0 → NumberIn w
  unfolding fault_item is_signed
  item_in n e = elim (either _ (eqb (kind w) Kind.auxiliary_lower) _ e) [
    | inl h ↦ lower_in n h.1
    | inr h ↦ elim (either _ (eqb (kind w) Kind.at_most || eqb (kind w) Kind.equal) _ h.1) [
      | inl k ↦ two-kinds Kind.at_most Kind.equal refl refl k.0
      | inr k ↦ two-kinds Kind.product Kind.rows_end refl refl (not-second _ (eqb (kind w) Kind.product || eqb (kind w) Kind.rows_end) 2 k.1).0
    ]
  ]

  source_in : (n : ℕ) → fault_source n w ≡ 0 → NumberIn w
  unfolding fault_source is_signed
  source_in n e = elim (either _ (eqb (kind w) Kind.lower) _ e) [
    | inl h ↦ lower_in n h.1
    | inr h ↦ elim (either _ (eqb (kind w) Kind.boolean) _ h.1) [ inl k ↦ not-signed Kind.boolean (eqb-true (kind w) _ k.0) refl | inr k ↦ item_in n k.1 ]
  ]

  upper_in : (k lower : ℕ) → fault_upper k lower w ≡ 0 → NumberIn w
  unfolding fault_upper
  upper_in k lower e = λ s. (of_range w _ (of-kind w k _ e).1).0

  number_in : fault_number_in Limit.range w ≡ 0 → NumberIn w
  unfolding fault_number_in
  number_in e = λ s. (of_range w _ (of-kind w Kind.number _ e).1).0

  variable_in : (n : ℕ) → fault_variable n w ≡ 0 → NumberIn w
  unfolding fault_variable is_signed
  variable_in n e = not-signed Kind.variable (of-kind w Kind.variable _ e).0 refl

  result_in : (n f g : ℕ) → fault_result n w f g ≡ 0 → NumberIn w
  unfolding fault_result is_signed
  result_in n f g e = not-signed Kind.variable (of-kind w Kind.variable _ e).0 refl

  due_in : (d : Due) (n : ℕ) (ws : List ℕ) → fault_due d n w ws ≡ 0 → NumberIn w
  unfolding fault_due
  due_in Source n ws e = source_in n e
  due_in (SourceUpper lower) n ws e = upper_in Kind.upper lower e
  due_in Item n ws e = item_in n e
  due_in (AuxiliaryUpper lower) n ws e = upper_in Kind.auxiliary_upper lower e
  due_in (Terms left) n ws e = elim (either _ (ltb 0 left) _ e) [ inl h ↦ variable_in n h.1 | inr h ↦ number_in h.1 ]
  due_in (Coefficient left) n ws e = number_in e
  due_in Result n ws e = result_in n _ _ e
  due_in FirstFactor n ws e = variable_in n e
  due_in SecondFactor n ws e = variable_in n e
  due_in Ended n ws e = absurd (omega arith)

pub all-number_in : (ws : List ℕ) → read_rows ws ≡ accepted → All NumberIn ws
unfolding read_rows fault
all-number_in ws h =
    each_word fault after ended NumberIn (λ s w vs e. due_in w s.due s.variables vs e) begin 0 ws
    (not_too_many 0 (ltb Limit.row_words (length ws)) _ h).1
