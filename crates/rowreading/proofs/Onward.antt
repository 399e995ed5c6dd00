-- Reading on past one word, or stopping at it: for the proofs of the reader's functions.
use Rattle.std.proofs.Common.{◌≡◌, refl, sym, ◌∙◌, ◌⊎◌, inl, inr, ⊎_elim, Bool, true, false, List, ℕ, ◌+◌, ◌<◌, ◌≤◌, arith, ltb-true, ltb-false, eqb-true, ltb, eqb, length, drop}
use lib.ListN.{get_or-eq_default}
use Rattle.integers.specs.Choice.{◌if◌else◌}
use Rattle.words.specs.Check.{fault_number_in}
use Rattle.words.specs.Fault as Fault
use Rattle.words.specs.Limit as Limit
use Rattle.words.specs.Word.{kind, word_at}
use Rattle.words.specs.Refusal.{accepted, ◌at_place◌}
use Rattle.words.proofs.Reading.{onward, refused, at-end}
use Rattle.rowsystems.specs.Reading.{fault_item, fault_source, fault_upper, fault_variable, fault_result, fault_due, fault_end, fault, after_due, started, after, ended, State}
use Rattle.rowsystems.specs.declared.Due.{Due}
use Rattle.rowsystems.specs.declared.Due.TheVariants.{Source, SourceUpper, Item, AuxiliaryUpper, Terms, Coefficient, Result, FirstFactor, SecondFactor, Ended}
use Rattle.rowreading.specs.Onward as Onward
use Rattle.rowreading.specs.Onward.{stopped}

-- ---- past the end of the words, where a word reads 0

-- a word 0 has a fault wherever a word is due, and after the end word too
past : (due : Due) (n : ℕ) (l : List ℕ) →
    ((fault_due due n 0 l ≡ Fault.wrong_kind) × (fault_end due ≡ Fault.words_end))
    ⊎ ((fault_due due n 0 l ≡ Fault.word_after_end) × (fault_end due ≡ Fault.none))
unfolding fault_due fault_end fault_source fault_item fault_upper fault_variable fault_number_in fault_result kind
past Source n l = inl (refl, refl)
past (SourceUpper lower) n l = inl (refl, refl)
past Item n l = inl (refl, refl)
past (AuxiliaryUpper lower) n l = inl (refl, refl)
past (Terms left) n l = inl (go (ltb 0 left), refl)
  where
    go : (b : Bool) → (fault_variable n 0 if b else fault_number_in Limit.range 0) ≡ Fault.wrong_kind
    go true = refl
    go false = refl
past (Coefficient left) n l = inl (refl, refl)
past Result n l = inl (refl, refl)
past FirstFactor n l = inl (refl, refl)
past SecondFactor n l = inl (refl, refl)
past Ended n l = inr (refl, refl)

-- ---- one word

module _ (ws : List ℕ) (due : Due) (n at : ℕ) where
  abbrev pub fault_at : ℕ
  fault_at = fault_due due n (word_at ws at) (drop (at + 1) ws)

  past-here : length ws ≤ at → fault_due due n 0 (drop (at + 1) ws) ≡ fault_at
  unfolding word_at
  past-here h = rw (get_or-eq_default ws 0 {n = at} h)

  -- a word without a fault is there
  pub here : 0 ≡ fault_at → at < length ws
  here e =
      let k : length ws ≤ at → ⊥ = λ h. ⊎_elim (λ p. omega (arith, p.0, past-here h, e)) (λ p. omega (arith, p.0, past-here h, e)) (past due n (drop (at + 1) ws)) in
      omega arith

  abbrev here-state : State
  here-state = record { due = due; variables = n }

  pub go_on : 0 ≡ fault_at → Onward.onward due n at ws ≡ Onward.onward (after_due due (word_at ws at)) (n + started (word_at ws at)) (at + 1) ws
  unfolding Onward.onward fault after word_at
  go_on e = sym (onward fault after ended here-state ws at 0 (here e) e refl)

  pub stop-at : (f : ℕ) → f ≡ fault_at → (f ≡ 0 → ⊥) → Onward.onward due n at ws ≡ stopped ws f at
  unfolding Onward.onward fault ended stopped word_at
  stop-at f e z = go (ltb at (length ws)) refl
    where
      go : (b : Bool) → ltb at (length ws) ≡ b →
          Onward.onward due n at ws ≡ (f at_place at if b else accepted if eqb f Fault.word_after_end else Fault.words_end at_place at)
      go true t = sym (refused fault after ended here-state ws at f (ltb-true at (length ws) t) e z)
      go false t =
          let h = ltb-false at (length ws) t in
          let s = e ∙ sym (past-here h) in
          sym (at-end fault after ended here-state ws at h)
          ∙ ⊎_elim (λ k. rw (s ∙ k.0, k.1)) (λ k. rw (s ∙ k.0, k.1)) (past due n (drop (at + 1) ws))

-- ---- the end

-- accepted: past the end word, and there are no words left
pub at_the_end : (ws : List ℕ) (f p : ℕ) → (f ≡ 0 → ⊥) → (stopped ws f p).number ≡ 0 → (f ≡ Fault.word_after_end) × (length ws ≤ p)
unfolding stopped
at_the_end ws f p z e = go (ltb p (length ws)) (eqb f Fault.word_after_end) refl refl e
  where
    go : (a b : Bool) → ltb p (length ws) ≡ a → eqb f Fault.word_after_end ≡ b →
        (f at_place p if a else accepted if b else Fault.words_end at_place p).number ≡ 0 → (f ≡ Fault.word_after_end) × (length ws ≤ p)
    go true b q r e = absurd (z e)
    go false true q r e = (eqb-true f Fault.word_after_end r, ltb-false p (length ws) q)
    go false false q r e = absurd (omega arith)
