-- The numbers among a model's words: all are in the range where the words are accepted. And reading in two ranges, which differs only where a
-- number of the words is in one of them alone. For the law of the answers before the range of 02.
use Rattle.std.proofs.Common.{◌≡◌, refl, ap, ◌∙◌, inl, inr, Bool, true, false, not, List, ℕ, arith, ltb, eqb, length, eqb-true}
use Rattle.integers.specs.Choice.{◌if◌else◌}
use Rattle.integers.specs.declared.Bounds.{Bounds}
use Rattle.integers.proofs.Tests.{All}
use Rattle.words.specs.Word.{kind, too_low}
use Rattle.words.specs.Kind as Kind
use Rattle.words.specs.Check.{fault_number_in}
use Rattle.words.specs.Limit as Limit
use Rattle.words.specs.Fault as Fault
use Rattle.words.specs.Refusal.{◌at_place◌, accepted}
use Rattle.words.proofs.Range.{is_signed, not-signed, NumberIn}
use Rattle.words.proofs.Choices.{either, of-kind, of_range}
use Rattle.words.proofs.Reading.{not_too_many, each_word, same-reading}
use Rattle.models.specs.Shape as Shape
use Rattle.models.specs.Shape.{argument}
use Rattle.models.specs.Reading.{fault_head, fault_start_in, fault_upper_in, fault_variable, fault_count_in, fault_argument_in, fault_due_in, fault_in, after, ended, begin, read_model, read_model_in}
use Rattle.models.specs.InRange.{fault_start, fault_count, fault_due, fault}
use Rattle.models.specs.declared.Due.{Due}
use Rattle.models.specs.declared.Due.TheVariants.{Start, Upper, Arguments, Ended}
use Rattle.models.proofs.Sound.{is-variable, is-upper, at-constraint, at-end, is-head, at-lower, at-boolean, at_head, is-start}

-- ---- accepted words

module _ (w : ℕ) where
  number_in : fault_number_in Limit.range w ≡ 0 → NumberIn w
  unfolding fault_number_in
  number_in e s = (of_range w _ (of-kind w Kind.number _ e).1).0

  count_in : (most : ℕ) → fault_count most w ≡ 0 → NumberIn w
  unfolding fault_count_in
  count_in most e s = (of_range w _ (of-kind w Kind.number _ e).1).0

  variable_in : (t type : ℕ) → fault_variable t type w ≡ 0 → NumberIn w
  unfolding is_signed
  variable_in t type e s = not-signed Kind.variable (is-variable w t type e).0 refl s

  head_in : (c : ℕ) → fault_head c w ≡ 0 → NumberIn w
  unfolding is_signed
  head_in c e s = elim (is-head c w e) [
    | at-constraint few k lo hi ↦ not-signed Kind.constraint k refl s
    | at-end k ↦ not-signed Kind.model_end k refl s
  ]

  start_in : (v c : ℕ) → fault_start v c w ≡ 0 → NumberIn w
  unfolding is_signed
  start_in v c e s = elim (is-start v c w e) [
    | at-lower few k i ↦ i
    | at-boolean few k p ↦ not-signed Kind.boolean k refl s
    | at_head n m h ↦ head_in c h s
  ]

  argument_in : (t c arg : ℕ) → fault_argument_in Limit.range t c arg w ≡ 0 → NumberIn w
  unfolding fault_argument_in
  argument_in t c arg e = elim (either _ (eqb arg Shape.none) _ e) [
    | inl h ↦ head_in c h.1
    | inr h ↦ elim (either _ (ltb arg Shape.number) _ h.1) [
      | inl k ↦ variable_in t arg k.1
      | inr k ↦ elim (either _ (eqb arg Shape.number) _ k.1) [
        | inl m ↦ number_in m.1
        | inr m ↦ elim (either _ (eqb arg Shape.exponent) _ m.1) [ inl n ↦ count_in Limit.exponent n.1 | inr n ↦ count_in Limit.list_length n.1 ]
      ]
    ]
  ]

  due_in : (d : Due) (v t c : ℕ) → fault_due d v t c w ≡ 0 → NumberIn w
  unfolding fault_due_in
  due_in Start v t c e = start_in v c e
  due_in (Upper lower) v t c e = λ s. (is-upper w lower e).2
  due_in (Arguments numbers variables type code k) v t c e = elim (either _ (ltb 0 numbers) _ e) [
    | inl h ↦ number_in h.1
    | inr h ↦ elim (either _ (ltb 0 variables) _ h.1) [ inl m ↦ variable_in t type m.1 | inr m ↦ argument_in t c (argument code k) m.1 ]
  ]
  due_in Ended v t c e = absurd (omega arith)

pub all-number_in : (ws : List ℕ) → read_model ws ≡ accepted → All NumberIn ws
unfolding read_model_in fault_in
all-number_in ws h =
    each_word fault after ended NumberIn (λ s w vs e. due_in w s.due _ _ s.constraints e) begin 0 ws
    (not_too_many 0 (ltb Limit.model_words (length ws)) _ h).1

-- ---- two ranges

-- a choice by a test, whose first is alike where the test is true; and one whose second is alike where it is false
first_alike : (t : Bool) (x y z : ℕ) → (t ≡ true → x ≡ y) → (x if t else z) ≡ (y if t else z)
first_alike true x y z h = h refl
first_alike false x y z h = refl

second_alike : (t : Bool) (x y z : ℕ) → (t ≡ true → x ≡ y) → (z if not t else x) ≡ (z if not t else y)
second_alike true x y z h = h refl
second_alike false x y z h = refl

module _ (r r' : Bounds) where
  -- the number of the word is in both ranges or in none, if it has one
  abbrev pub Alike : ℕ → Type 0
  Alike w = is_signed (kind w) ≡ true → too_low r w ≡ too_low r' w

  module _ (w : ℕ) (alike : Alike w) where
    -- 18 before another fault, at a kind with a signed payload
    lowest-alike : (k n : ℕ) → is_signed k ≡ true → eqb (kind w) k ≡ true → (Fault.lowest_number if too_low r w else n) ≡ (Fault.lowest_number if too_low r' w else n)
    lowest-alike k n s e = ap (λ b. Fault.lowest_number if b else n) (alike (ap is_signed (eqb-true _ _ e) ∙ s))

    start-alike : (v c : ℕ) → fault_start_in r v c w ≡ fault_start_in r' v c w
    unfolding fault_start_in is_signed
    start-alike v c = first_alike (eqb (kind w) Kind.lower) _ _ _ (lowest-alike Kind.lower _ refl)

    upper-alike : (lower : ℕ) → fault_upper_in r lower w ≡ fault_upper_in r' lower w
    unfolding fault_upper_in is_signed
    upper-alike lower = second_alike (eqb (kind w) Kind.upper) _ _ _ (lowest-alike Kind.upper _ refl)

    number-alike : fault_number_in r w ≡ fault_number_in r' w
    unfolding fault_number_in is_signed
    number-alike = second_alike (eqb (kind w) Kind.number) _ _ _ (lowest-alike Kind.number _ refl)

    count-alike : (most : ℕ) → fault_count_in r most w ≡ fault_count_in r' most w
    unfolding fault_count_in is_signed
    count-alike most = second_alike (eqb (kind w) Kind.number) _ _ _ (lowest-alike Kind.number _ refl)

    due-alike : (d : Due) (v t c : ℕ) → fault_due_in r d v t c w ≡ fault_due_in r' d v t c w
    unfolding fault_due_in fault_argument_in
    due-alike Start v t c = start-alike v c
    due-alike (Upper lower) v t c = upper-alike lower
    due-alike (Arguments numbers variables type code k) v t c = rw (number-alike, count-alike Limit.exponent, count-alike Limit.list_length) refl
    due-alike Ended v t c = refl

  pub reads-alike : (ws : List ℕ) → All Alike ws → read_model_in r ws ≡ read_model_in r' ws
  unfolding read_model_in fault_in
  reads-alike ws h =
      ap (λ rest. (Fault.too_many_words at_place 0) if ltb Limit.model_words (length ws) else rest)
      (same-reading (fault_in r) (fault_in r') after ended Alike (λ s w vs a. due-alike w a s.due _ _ s.constraints) begin 0 ws h)
