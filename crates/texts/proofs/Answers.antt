-- What a text answers, from what reading it token by token gives. For `read_text`.
use Rattle.std.proofs.Common.{◌≡◌, refl, sym, ap, ◌∙◌, List, ℕ, ◌<◌, ◌≤◌, length, take, ne_eqb, lt-ltb, le-ltb, Ok, Err}
use Rattle.words.specs.Overlay.{overlay}
use Rattle.words.proofs.Overlay.{front-over}
use Rattle.words.specs.Answer.{refused, written, ◌else_answer◌}
use Rattle.words.specs.Faults.{fault_number}
use Rattle.words.specs.Refusal.{◌at_place◌, ◌else_refuse◌, accepted, room_fault}
use Rattle.words.specs.declared.fault.Fault.{Fault}
use Rattle.words.specs.declared.fault.Refusal as error
use Rattle.words.proofs.Faulty.{fault-number, fault-refuses, fault-answers}
use Rattle.tokens.specs.Token.{tokens}
use Rattle.texts.specs.Text.{tokens_words, words_fault, text_fault, read_text, text_read}
use Rattle.texts.specs.TextReading.{ReadsTokens}

-- of a text that is refused, of one that is not
module _ (bs out : List ℕ) where
  pub says-refused : (e : Fault) (p : ℕ) → text_fault bs (length out) ≡ fault_number e at_place p → (refused (fault_number e) p ≡ read_text bs (length out)) × (out ≡ text_read bs out)
  unfolding read_text text_read ◌else_answer◌
  says-refused e p q = rw (q, ne_eqb (fault_number e) 0 (fault-number e)) (sym (fault-answers e p _), refl)

  pub says-written : text_fault bs (length out) ≡ accepted → (written (length (tokens_words (tokens bs))) ≡ read_text bs (length out)) × (overlay out 0 (tokens_words (tokens bs)) ≡ text_read bs out)
  unfolding read_text text_read ◌else_answer◌
  says-written e = rw e (refl, refl)

module _ {bs before o : List ℕ} (room : ℕ) where
  pub at-fault : {e : error.Refusal} → ReadsTokens bs before (Err e) o → text_fault bs room ≡ fault_number e.fault at_place e.place
  unfolding text_fault ◌else_refuse◌
  at-fault {e} d = rw (← d.fault) (fault-refuses e.fault e.place _)

  module _ {n : ℕ} (d : ReadsTokens bs before (Ok n) o) where
    limits : text_fault bs room ≡ words_fault room n
    unfolding text_fault ◌else_refuse◌
    limits = rw (← d.fault, ← d.words.0)

    pub too_many : 8192 < n → text_fault bs room ≡ 1 at_place 0
    unfolding words_fault room_fault
    too_many h = limits ∙ rw (lt-ltb 8192 n h)

    pub too_short : n ≤ 8192 → room < n → text_fault bs room ≡ 16 at_place 0
    unfolding words_fault room_fault
    too_short h g = limits ∙ rw (le-ltb 8192 n h, lt-ltb room n g)

    pub fits : n ≤ 8192 → n ≤ room → text_fault bs room ≡ accepted
    unfolding words_fault room_fault
    fits h g = limits ∙ rw (le-ltb 8192 n h, le-ltb room n g)

-- the words that were read, at the front of a list with room for them
pub words-read : {bs before o : List ℕ} {n : ℕ} → ReadsTokens bs before (Ok n) o → n ≤ length before → take n o ≡ tokens_words (tokens bs)
words-read {bs} {before} {o} {n} d h = rw (d.words.1, d.words.0) (front-over before (tokens_words (tokens bs)) (rw d.words.0 at h))

pub lays-words : {bs before o new : List ℕ} {n : ℕ} (out : List ℕ) → ReadsTokens bs before (Ok n) o → n ≤ length before → new ≡ overlay out 0 (take n o) → text_fault bs (length out) ≡ accepted → (written n ≡ read_text bs (length out)) × (new ≡ text_read bs out)
lays-words {bs} {before} {o} {new} {n} out d h e q =
    let says = says-written bs out q in (ap written d.words.0 ∙ says.0, e ∙ ap (overlay out 0) (words-read d h) ∙ says.1)
