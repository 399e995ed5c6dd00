-- What each fault says of the call's answer, in their order; else the words are written.
use Rattle.std.proofs.Common.{◌≡◌, refl, ap, ap₂, ◌∙◌, true, false, List, ℕ, ◌≤◌, ◌<◌, arith, eqb, ℤ, length, lt-ltb, le-ltb, ne_eqb}
use Rattle.integers.specs.Choice.{◌if◌else◌}
use Rattle.integers.specs.Number.{+0, +1}
use Rattle.words.specs.Overlay.{overlay}
use Rattle.words.specs.Refusal.{◌at_place◌, accepted, ◌else_refuse◌, room_fault}
use Rattle.words.specs.Answer.{Answer, refused, written, ◌else_answer◌}
use Rattle.words.specs.Refusals.{Refusal}
use Rattle.words.proofs.Answers.{first-answers}
use Rattle.words.proofs.Reading.{some-fault}
use Rattle.rowsystems.specs.Reading.{read_rows}
use Rattle.bitforms.specs.Matrix.{Entry, entries_from, not_zero}
use Rattle.bitforms.specs.BitForm.{bit_rows_of, bit_count, form_constant, form_entries}
use Rattle.bitforms.specs.FormWords.{words_of, form_words}
use Rattle.bitforms.specs.FormAnswer.{size_fault, number_fault, all_fit, fits_or, form_fits, bit_form_fault, bit_form, bit_formed}
use Rattle.bitforms.specs.Taken.{taken_words}
use Rattle.bitform.specs.Answered.{Answered, AnsweredTaken}
use Rattle.bitform.proofs.Pieces.{fit, once, entry-once}

module _ (ws out : List ℕ) where
  refuses : (n p : ℕ) (after : Refusal) → (n ≡ 0 → ⊥) → bit_form_fault ws (length out) ≡ (n at_place p else_refuse after) → Answered ws out out (refused n p)
  unfolding bit_form bit_formed ◌else_refuse◌
  refuses n p after f e = record { says = rw e (first-answers n p after _ f); holds = rw (e, ← some-fault n p after f, ne_eqb n 0 f) }

  pub stands : (r : Refusal) → r ≡ read_rows ws → (r.number ≡ 0 → ⊥) → Answered ws out out (refused r.number r.place)
  unfolding bit_form_fault
  stands r e f = refuses r.number r.place (size_fault ws else_refuse (number_fault ws else_refuse room_fault (length out) (length (form_words ws)))) f (rw (← e))

  pub too_many : read_rows ws ≡ accepted → 1024 < bit_count ws → Answered ws out out (refused 23 0)
  unfolding bit_form_fault size_fault ◌else_refuse◌
  too_many z l = refuses 23 0 accepted (λ x. omega arith) (rw (z, lt-ltb 1024 (bit_count ws) l))

-- ---- of a form that is taken

module _ (ws out : List ℕ) (k c : ℤ) (a : ℕ → ℤ) where
  pub too_large : fit ws k c a ≡ false → AnsweredTaken ws k c a out out (refused 24 0)
  unfolding ◌else_refuse◌ ◌else_answer◌
  too_large f = record { says = rw f refl; holds = rw f refl }

  pub too_short : fit ws k c a ≡ true → length out < length (taken_words ws k c a) → AnsweredTaken ws k c a out out (refused 16 0)
  unfolding room_fault ◌else_refuse◌ ◌else_answer◌
  too_short f s = let r = lt-ltb (length out) (length (taken_words ws k c a)) s in record { says = rw (f, r) refl; holds = rw (f, r) refl }

  pub writes : fit ws k c a ≡ true → length (taken_words ws k c a) ≤ length out → AnsweredTaken ws k c a out (overlay out 0 (taken_words ws k c a)) (written (length (taken_words ws k c a)))
  unfolding room_fault ◌else_refuse◌ ◌else_answer◌
  writes f s = let r = le-ltb (length out) (length (taken_words ws k c a)) s in record { says = rw (f, r) refl; holds = rw (f, r) refl }

-- ---- the form of the call bits is taken once, and nothing is added

-- what is refused and written, by the constant and the entries
abbrev fault_of : List ℕ → ℕ → ℤ → List Entry → Refusal
fault_of ws room c xs = fits_or (all_fit ws c xs) else_refuse room_fault room (length (words_of c xs))

pub taken-once : (ws out : List ℕ) {a : ℕ → ℤ} {after : List ℕ} {answer : Answer} → read_rows ws ≡ accepted → bit_count ws ≤ 1024 → ((i : ℕ) → a i ≡ +0) →
    AnsweredTaken ws +1 +0 a out after answer → Answered ws out after answer
unfolding bit_form bit_formed bit_form_fault size_fault number_fault form_fits form_words form_entries ◌else_refuse◌
taken-once ws out {a} z l h t =
    let k = le-ltb 1024 (bit_count ws) l in
    let c = once (form_constant ws) in
    let e = ap (λ f. not_zero (entries_from f 0 (bit_count ws))) (entry-once a h (bit_rows_of ws)) in
    record {
      says = t.says ∙ ap₂ (λ c xs. fault_of ws (length out) c xs else_answer written (length (words_of c xs))) c e ∙ rw (z, k) refl;
      holds = t.holds ∙ ap₂ (λ c xs. overlay out 0 (words_of c xs) if eqb (fault_of ws (length out) c xs).number 0 else out) c e ∙ rw (z, k) refl;
    }
