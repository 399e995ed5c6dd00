-- Where the answer is that words were written, the output begins with words that read back as the form, and these share the row system's solutions.
use Rattle.std.proofs.Common.{◌≡◌, refl, sym, ap, ◌∙◌, subst, Bool, true, false, List, ◌++◌, ℕ, zero, suc, ◌≤◌, arith, ltb, eqb, ℤ, length, drop, take-append-drop, ltb-false}
use mathlib.Core.Path.{fun_ext}
use Rattle.integers.specs.Choice.{◌if◌else◌}
use Rattle.words.specs.Limit as Limit
use Rattle.words.specs.Fault as Fault
use Rattle.words.specs.Overlay.{overlay}
use Rattle.words.specs.Refusal.{accepted, fault_or, ◌at_place◌, ◌else_refuse◌, room_fault}
use Rattle.words.specs.Answer.{refused_or, written, ◌else_answer◌}
use Rattle.words.specs.Refusals.{Refusal}
use Rattle.words.proofs.Overlay.{front-over}
use Rattle.rowsystems.specs.Reading.{read_rows}
use Rattle.bitforms.specs.BitForm.{bit_count}
use Rattle.bitforms.specs.FormWords.{form_words}
use Rattle.bitforms.specs.FormAnswer.{form_fits, size_fault, number_fault, bit_form_fault, bit_form, bit_formed}
use Rattle.bitforms.specs.ReadForm.{read_form}
use Rattle.bitforms.specs.SameSolutions.{SameSolutions}
use Rattle.bitforms.proofs.Theorem.{form_of, same-solutions}
use Rattle.bitforms.proofs.ReadBack.{reads-back}

-- the output begins with the words
pub begins : (out xs : List ℕ) → length xs ≤ length out → overlay out 0 xs ≡ xs ++ drop (length xs) (overlay out 0 xs)
begins out xs h = sym (take-append-drop (length xs) (overlay out 0 xs)) ∙ ap (λ l. l ++ drop (length xs) (overlay out 0 xs)) (front-over out xs h)

module _ (ws out : List ℕ) (n : ℕ) (wrote : bit_form ws (length out) ≡ written n) where
  -- what was written reads as the form
  pub says-form : (bs : List ℤ) → read_form (bit_formed ws out) bs ≡ form_of ws bs
  unfolding bit_form bit_formed bit_form_fault size_fault number_fault room_fault ◌else_refuse◌ ◌else_answer◌
  says-form bs =
      by (read_rows ws).number (read_rows ws).place (ltb Limit.bits (bit_count ws)) (form_fits ws) (ltb (length out) (length (form_words ws))) refl refl refl wrote
    where
      found : ℕ → ℕ → Bool → Bool → Bool → Refusal
      found m p many fits short =
          fault_or m p (fault_or (Fault.too_many_bits at_place 0 if many else accepted).number (Fault.too_many_bits at_place 0 if many else accepted).place
          (fault_or (accepted if fits else Fault.form_too_large at_place 0).number (accepted if fits else Fault.form_too_large at_place 0).place
          (Fault.output_too_short at_place 0 if short else accepted)))

      by : (m p : ℕ) (many fits short : Bool) → ltb Limit.bits (bit_count ws) ≡ many → form_fits ws ≡ fits → ltb (length out) (length (form_words ws)) ≡ short →
          refused_or (found m p many fits short).number (found m p many fits short).place (written (length (form_words ws))) ≡ written n →
          read_form (overlay out 0 (form_words ws) if eqb (found m p many fits short).number Fault.none else out) bs ≡ form_of ws bs
      by zero p false true false b f r e =
          ap (λ ws. read_form ws bs) (begins out (form_words ws) (omega (arith, ltb-false)))
          ∙ reads-back ws (drop (length (form_words ws)) (overlay out 0 (form_words ws))) bs (omega (arith, ltb-false)) f
      by zero p false true true b f r e = let z : ◌≡◌ {A = ℕ} 0 1 = cc in absurd (omega arith)
      by zero p false false short b f r e = let z : ◌≡◌ {A = ℕ} 0 1 = cc in absurd (omega arith)
      by zero p true fits short b f r e = let z : ◌≡◌ {A = ℕ} 0 1 = cc in absurd (omega arith)
      by (suc m) p many fits short b f r e = let z : ◌≡◌ {A = ℕ} 0 1 = cc in absurd (omega arith)

  pub written-shares : SameSolutions ws (read_form (bit_formed ws out))
  written-shares = subst (SameSolutions ws) (fun_ext (λ bs. sym (says-form bs))) (same-solutions ws)
