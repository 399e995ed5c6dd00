-- Reading on past one word, or stopping at it: for the proofs of the reader's functions.
use Rattle.std.proofs.Common.{◌≡◌, refl, sym, ◌∙◌, ◌≢◌, ◌⊎◌, inl, inr, ⊎_elim, Bool, true, false, List, ◌++◌, ℕ, ◌+◌, ◌<◌, ◌≤◌, arith, ltb-true, ltb-false, ne_eqb, ltb, length, get_or, drop_of_length-le}
use lib.ListN.{get_or-eq_default}
use Rattle.integers.specs.Choice.{◌if◌else◌}
use Rattle.words.specs.Check.{fault_number_in}
use Rattle.words.specs.Fault as Fault
use Rattle.words.specs.Word.{kind, payload, word_at}
use Rattle.words.specs.Refusal.{◌at_place◌, fault_or, accepted, first_fault}
use Rattle.words.proofs.Reading.{onward, refused, at-end, word-then}
use Rattle.models.specs.Shape.{argument, shapes}
use Rattle.models.specs.Reading.{fault_head, fault_start_in, fault_upper_in, fault_variable, fault_count_in, fault_argument_in, fault_due_in, fault_end, fault_in, after_head, after_due, declared, started, after, ended, State}
use Rattle.models.specs.InRange.{fault_due, fault}
use Rattle.models.specs.declared.Due.{Due}
use Rattle.models.specs.declared.Due.TheVariants.{Start, Upper, Arguments, Ended}
use Rattle.modelitems.specs.Onward as Onward
use Rattle.modelitems.specs.Onward.{stopped}

-- ---- past the end of the words, where a word reads 0

same : (b : Bool) (n : ℕ) → (n if b else n) ≡ n
same true n = refl
same false n = refl

-- a word 0 has a fault wherever a word is due, and after the end word too
past : (due : Due) (v t c : ℕ) → (fault_due due v t c 0 ≡ Fault.wrong_kind) ⊎ (fault_due due v t c 0 ≡ Fault.word_after_end)
unfolding fault_due_in fault_start_in fault_head fault_upper_in fault_number_in fault_variable fault_count_in fault_argument_in kind
past Start v t c = inl refl
past (Upper lower) v t c = inl refl
past (Arguments n l type code k) v t c = inl (simp same)
past Ended v t c = inr refl

-- ---- one word

module _ (ws ts : List ℕ) (due : Due) (c at : ℕ) where
  abbrev pub fault_at : ℕ
  fault_at = fault_due due (length ts) (get_or ts (payload (word_at ws at)) 0) c (word_at ws at)

  past-here : length ws ≤ at → fault_due due (length ts) (get_or ts (payload 0) 0) c 0 ≡ fault_at
  unfolding word_at
  past-here h = rw (get_or-eq_default ws 0 {n = at} h)

  -- a word without a fault is there
  pub here : 0 ≡ fault_at → at < length ws
  here e = go (ltb at (length ws)) refl
    where
      go : (b : Bool) → ltb at (length ws) ≡ b → at < length ws
      go true t = ltb-true at (length ws) t
      go false t =
          let z = past-here (ltb-false at (length ws) t) in
          ⊎_elim (λ k. absurd (omega (arith, k, z, e))) (λ k. absurd (omega (arith, k, z, e))) (past due (length ts) (get_or ts (payload 0) 0) c)

  abbrev here-state : State
  here-state = record { due = due; types = ts; constraints = c }

  pub go_on : 0 ≡ fault_at → Onward.onward due ts c at ws ≡ Onward.onward (after_due due (word_at ws at)) (ts ++ declared (word_at ws at)) (c + started (word_at ws at)) (at + 1) ws
  unfolding Onward.onward fault_in after word_at
  go_on e = sym (onward fault after ended here-state ws at 0 (here e) e refl)

  -- a word with one ends the reading, and so does the end of the words
  pub stop-here : (f : ℕ) → at < length ws → f ≡ fault_at → (f ≡ 0 → ⊥) → Onward.onward due ts c at ws ≡ f at_place at
  unfolding Onward.onward fault_in word_at
  stop-here f h e z = sym (refused fault after ended here-state ws at f h e z)

  pub end-here : length ws ≤ at → Onward.onward due ts c at ws ≡ fault_or (fault_end due) at accepted
  unfolding Onward.onward ended
  end-here h = sym (at-end fault after ended here-state ws at h)

  pub stop-at : (f : ℕ) → fault_end due ≡ Fault.words_end → f ≡ fault_at → (f ≡ 0 → ⊥) → Onward.onward due ts c at ws ≡ stopped ws f at
  unfolding stopped
  stop-at f d e z = go (ltb at (length ws)) refl
    where
      go : (b : Bool) → ltb at (length ws) ≡ b → Onward.onward due ts c at ws ≡ (f at_place at if b else Fault.words_end at_place at)
      go true t = stop-here f (ltb-true at (length ws) t) e z
      go false t = end-here (ltb-false at (length ws) t) ∙ rw d

-- ---- two things due that no word tells apart

pub alike : (ws ts : List ℕ) (d e : Due) (c at : ℕ) → fault_at ws ts d c at ≡ fault_at ws ts e c at → after_due d (word_at ws at) ≡ after_due e (word_at ws at) → fault_end d ≡ fault_end e →
    Onward.onward d ts c at ws ≡ Onward.onward e ts c at ws
unfolding Onward.onward first_fault fault_in after ended word_at
alike ws ts d e c at f a z = go (ltb at (length ws)) refl
  where
    go : (b : Bool) → ltb at (length ws) ≡ b → Onward.onward d ts c at ws ≡ Onward.onward e ts c at ws
    go true t = rw (word-then ws at (ltb-true at (length ws) t), f, a)
    go false t = rw (drop_of_length-le ws (ltb-false at (length ws) t), z)

-- the type of a list that is read does not count
pub any-type : (ws ts : List ℕ) (type code k c at : ℕ) → Onward.onward (Arguments 0 0 type code k) ts c at ws ≡ Onward.onward (Onward.arguments_from code k) ts c at ws
unfolding fault_due_in after_due fault_end
any-type ws ts type code k c at = alike ws ts (Arguments 0 0 type code k) (Onward.arguments_from code k) c at refl refl refl

-- after the last argument a constraint or the end may stand
none_of_zero : 0 ≡ argument 0 0
unfolding argument shapes
none_of_zero = refl

pub at-heads : (ws ts : List ℕ) (code k c at : ℕ) → 0 ≡ argument code k → Onward.onward (Onward.arguments_from code k) ts c at ws ≡ Onward.onward Onward.head_due ts c at ws
unfolding fault_due_in after_due fault_end fault_argument_in
at-heads ws ts code k c at e = alike ws ts (Onward.arguments_from code k) Onward.head_due c at (rw (← e, ← none_of_zero)) (rw (← e, ← none_of_zero)) refl

-- where no variable starts, as after the last argument
pub start-heads : (ws ts : List ℕ) (c at : ℕ) → kind (word_at ws at) ≢ 1 → kind (word_at ws at) ≢ 3 → Onward.onward Start ts c at ws ≡ Onward.onward Onward.head_due ts c at ws
unfolding fault_due_in after_due fault_end fault_start_in fault_argument_in
start-heads ws ts c at a b =
    let w = word_at ws at in
    alike ws ts Start Onward.head_due c at (rw (ne_eqb (kind w) 1 a, ne_eqb (kind w) 3 b, ← none_of_zero)) (rw (ne_eqb (kind w) 1 a, ne_eqb (kind w) 3 b, ← none_of_zero)) refl

-- the fault of a head, and what is due after it
pub head-fault : (ws ts : List ℕ) (c at : ℕ) → fault_at ws ts Onward.head_due c at ≡ fault_head c (word_at ws at)
unfolding fault_due_in fault_argument_in
head-fault ws ts c at = rw (← none_of_zero)

pub head-after : (w : ℕ) → after_due Onward.head_due w ≡ after_head w
unfolding after_due
head-after w = rw (← none_of_zero)
