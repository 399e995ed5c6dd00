-- Laws of reading words for the first fault, over any fault of a word: a word refused, a word accepted, the end, and what two readings share.
use Rattle.std.proofs.Common.{◌≡◌, refl, ap, ◌∙◌, Bool, true, false, List, [], ◌∷◌, ℕ, zero, suc, ◌+◌, ◌-◌, ◌<◌, ◌≤◌, arith, add-one, length, get_or, take, drop, length-drop, drop_of_length-le, drop-cons, get_or-drop, take_all}
use Rattle.integers.specs.Choice.{◌if◌else◌}
use Rattle.integers.proofs.Tests.{All}
use Rattle.words.specs.Word.{word_at}
use Rattle.words.specs.Refusals.{Refusal}
use Rattle.words.specs.Refusal.{◌at_place◌, fault_or, accepted, first_fault}

-- a fault, and none
pub some-fault : (n p : ℕ) (after : Refusal) → (n ≡ 0 → ⊥) → n at_place p ≡ fault_or n p after
some-fault zero p after f = absurd (f refl)
some-fault (suc n) p after f = refl

pub no-fault : (n p : ℕ) (after : Refusal) → n ≡ 0 → after ≡ fault_or n p after
no-fault n p after e = rw e

pub passed : (n p : ℕ) (r : Refusal) → fault_or n p r ≡ accepted → (n ≡ 0) × (r ≡ accepted)
passed zero p r e = (refl, e)
passed (suc n) p r e = let z : suc n ≡ 0 = ap (λ (x : Refusal). x.number) e in absurd (omega arith)

-- the same by the number of the refusal, which is 0 where there is none
pub passed-number : (n p : ℕ) (r : Refusal) → (fault_or n p r).number ≡ 0 → (n ≡ 0) × (r.number ≡ 0)
passed-number zero p r e = (refl, e)
passed-number (suc n) p r e = absurd (omega arith)

-- a limit on the number of words comes first
pub not_too_many : (n : ℕ) (t : Bool) (r : Refusal) → (suc n at_place 0 if t else r) ≡ accepted → (t ≡ false) × (r ≡ accepted)
not_too_many n true r e = let z : suc n ≡ 0 = ap (λ (x : Refusal). x.number) e in absurd (omega arith)
not_too_many n false r e = (refl, e)

-- the word at a place, and the words after it
pub word-then : (ws : List ℕ) (at : ℕ) → at < length ws → drop at ws ≡ get_or ws at 0 ∷ drop (at + 1) ws
word-then ws at h = rw add-one (drop-cons ws at 0 h)

-- a word after that one
pub word-ahead : (ws : List ℕ) (at i k : ℕ) → at + 1 + i ≡ k → word_at (drop (at + 1) ws) i ≡ word_at ws k
unfolding word_at
word-ahead ws at i k e = get_or-drop (at + 1) ws i 0 ∙ ap (λ (j : ℕ). get_or ws j 0) e

-- the words lent from a place to their end
pub tail-is : (ws : List ℕ) (at : ℕ) → take (length ws - at) (drop at ws) ≡ drop at ws
tail-is ws at = take_all (length ws - at) (drop at ws) (omega (arith, length-drop at ws))

-- reading from a place on, in a state; n is the fault of the word there
module _ {S : Type 0} (fault : S → ℕ → List ℕ → ℕ) (next : S → ℕ → S) (ended : S → ℕ) (s : S) (ws : List ℕ) (at : ℕ) where
  pub refused : (n : ℕ) → at < length ws → n ≡ fault s (get_or ws at 0) (drop (at + 1) ws) → (n ≡ 0 → ⊥) →
      n at_place at ≡ first_fault fault next ended s at (drop at ws)
  unfolding first_fault
  refused n h e f = rw (word-then ws at h, ← e) (some-fault n at _ f)

  pub onward : (n : ℕ) → at < length ws → n ≡ fault s (get_or ws at 0) (drop (at + 1) ws) → n ≡ 0 →
      first_fault fault next ended (next s (get_or ws at 0)) (at + 1) (drop (at + 1) ws) ≡ first_fault fault next ended s at (drop at ws)
  unfolding first_fault
  onward n h e f = rw (word-then ws at h, ← e) (no-fault n at _ f)

  pub at-end : length ws ≤ at → fault_or (ended s) at accepted ≡ first_fault fault next ended s at (drop at ws)
  unfolding first_fault
  at-end h = rw (drop_of_length-le ws h)

-- a reading without a fault is `accepted`
module _ {S : Type 0} (fault : S → ℕ → List ℕ → ℕ) (next : S → ℕ → S) (ended : S → ℕ) where
  pub read-without : (s : S) (p : ℕ) (ws : List ℕ) → (first_fault fault next ended s p ws).number ≡ 0 → first_fault fault next ended s p ws ≡ accepted
  unfolding first_fault
  read-without s p [] e = let f = (passed-number (ended s) p accepted e).0 in rw f refl
  read-without s p (w ∷ ws) e =
      let f = passed-number (fault s w ws) p (first_fault fault next ended (next s w) (p + 1) ws) e in
      rw f.0 (read-without (next s w) (p + 1) ws f.1)

-- what holds of each word without a fault holds of all words of a reading without one
module _ {S : Type 0} (fault : S → ℕ → List ℕ → ℕ) (next : S → ℕ → S) (ended : S → ℕ) (Q : ℕ → Type 0) (one : (s : S) (w : ℕ) (ws : List ℕ) → fault s w ws ≡ 0 → Q w) where
  pub each_word : (s : S) (p : ℕ) (ws : List ℕ) → first_fault fault next ended s p ws ≡ accepted → All Q ws
  unfolding first_fault
  each_word s p [] e = tt
  each_word s p (w ∷ ws) e = let h = passed (fault s w ws) p _ e in (one s w ws h.0, each_word (next s w) (p + 1) ws h.1)

-- two readings whose faults are alike at each of the words are alike
module _ {S : Type 0} (f g : S → ℕ → List ℕ → ℕ) (next : S → ℕ → S) (ended : S → ℕ) (Q : ℕ → Type 0) (one : (s : S) (w : ℕ) (ws : List ℕ) → Q w → f s w ws ≡ g s w ws) where
  pub same-reading : (s : S) (p : ℕ) (ws : List ℕ) → All Q ws → first_fault f next ended s p ws ≡ first_fault g next ended s p ws
  unfolding first_fault
  same-reading s p [] h = refl
  same-reading s p (w ∷ ws) h = rw (one s w ws h.0, same-reading (next s w) (p + 1) ws h.1) refl
