-- Where the answer is that words were written, the output begins with words that read back as the form.
use Rattle.std.proofs.Common.{◌≡◌, refl, sym, ap, ◌∙◌, subst, Bool, true, false, ◌&&◌, List, ℕ, ◌≤◌, ◌<◌, arith, ltb, eq-eqb, ℤ, pos, length, drop, ltb-true}
use mathlib.Core.Path.{fun_ext}
use Rattle.integers.specs.Choice.{◌if◌else◌}
use Rattle.integers.specs.Lists.{all}
use Rattle.integers.proofs.Booleans.{both_true}
use Rattle.words.specs.Limit as Limit
use Rattle.words.specs.Word.{in_range}
use Rattle.words.specs.Variables.{variables}
use Rattle.words.specs.Overlay.{overlay}
use Rattle.words.specs.Refusal.{accepted, ◌at_place◌}
use Rattle.words.specs.Answer.{Answer, written, ◌else_answer◌}
use Rattle.rowsystems.specs.Reading.{read_rows}
use Rattle.rules.specs.Translation.{system_words}
use Rattle.sharing.specs.SharedSolutions.{Passes}
use Rattle.bitforms.specs.Matrix.{coefficient_of}
use Rattle.bitforms.specs.BitForm.{bit_rows_of, bit_count}
use Rattle.bitforms.specs.FormAnswer.{row_fits, all_in_range, size_fault, fits_or}
use Rattle.bitforms.specs.ReadForm.{read_form}
use Rattle.bitforms.proofs.ReadBack.{words-back}
use Rattle.bitforms.proofs.Written.{begins}
use Rattle.bitanswers.proofs.Faults.{accepts, few_bits, first-passed, room_enough, counted}
use Rattle.bitforms.specs.Taken.{taken_entry}
use Rattle.bestforms.specs.declared.Direction.{Direction}
use Rattle.bestforms.specs.BestForm.{factor, objective, best_constant, best_entries, best_words, best_form}
use Rattle.bestforms.specs.BestAnswer.{variable_fault, best_fits, best_number_fault, best_bits_fault, best_bits, best_bitted}
use Rattle.bestforms.specs.BestSolutions.{BestSolutions}
use Rattle.bestforms.specs.BestShares.{BestModels, BestShares}
use Rattle.bestforms.proofs.Theorem.{best-solutions}
use Rattle.bestforms.proofs.Models.{best-models}

-- what holds where no fault was found
record Fits (ws : List ℕ) (v : ℕ) (d : Direction) (room : ℕ) : Type 0 where
  read : read_rows ws ≡ accepted
  few : bit_count ws ≤ Limit.bits
  named : v < length (variables ws)
  fits : best_fits ws v d ≡ true
  long : length (best_words ws v d) ≤ room

no-fault : (ws : List ℕ) (v : ℕ) (d : Direction) (room : ℕ) → (best_bits_fault ws v d room).number ≡ 0 → Fits ws v d room
unfolding best_bits_fault variable_fault best_number_fault
no-fault ws v d room e =
    let a = first-passed (read_rows ws) _ e in
    let b = first-passed (size_fault ws) _ a.1 in
    let c = first-passed (variable_fault ws v) _ b.1 in
    let f = first-passed (best_number_fault ws v d) _ c.1 in
    record {
      read = accepts ws a.0;
      few = few_bits ws b.0;
      named = found (ltb v (length (variables ws))) refl c.0;
      fits = good (best_fits ws v d) f.0;
      long = room_enough room (length (best_words ws v d)) f.1;
    }
  where
    found : (t : Bool) → ltb v (length (variables ws)) ≡ t → (accepted if t else 26 at_place 0).number ≡ 0 → v < length (variables ws)
    found true h z = ltb-true v (length (variables ws)) h
    found false h z = absurd (omega arith)

    good : (t : Bool) → (fits_or t).number ≡ 0 → t ≡ true
    good true z = refl
    good false z = absurd (omega arith)

module _ (ws : List ℕ) (v : ℕ) (d : Direction) (out : List ℕ) (n : ℕ) (wrote : best_bits ws v d (length out) ≡ written n) where
  none : (best_bits_fault ws v d (length out)).number ≡ 0
  unfolding best_bits ◌else_answer◌
  none = (counted _ _ (length (best_words ws v d)) n wrote).0

  -- what was written reads as the form
  says-best : (bs : List ℤ) → read_form (best_bitted ws v d out) bs ≡ best_form ws v d bs
  unfolding best_bitted best_words best_entries best_fits
  says-best bs =
      let h = no-fault ws v d (length out) none in
      let p = (both_true (all (row_fits (bit_count ws)) (bit_rows_of ws)) (in_range (best_constant ws v d) && all_in_range (best_entries ws v d)) h.fits).1 in
      let q = both_true (in_range (best_constant ws v d)) (all_in_range (best_entries ws v d)) p in
      rw (eq-eqb _ 0 none, begins out (best_words ws v d) h.long)
      (words-back (bit_count ws) (best_constant ws v d) (taken_entry (pos (factor ws v)) (coefficient_of (objective ws v d).terms) (bit_rows_of ws)) (drop (length (best_words ws v d)) (overlay out 0 (best_words ws v d))) bs h.few q.0 q.1)

  same : best_form ws v d ≡ read_form (best_bitted ws v d out)
  same = fun_ext (λ bs. sym (says-best bs))

  wrote-best : BestSolutions ws v d (read_form (best_bitted ws v d out))
  wrote-best =
      let h = no-fault ws v d (length out) none in
      subst (BestSolutions ws v d) same (best-solutions ws v d h.read h.named)

  wrote-models : (model : List ℕ) → Passes model → ws ≡ system_words model → v < length (variables model) → BestModels model v d (read_form (best_bitted ws v d out))
  wrote-models model passes e l =
      subst (BestModels model v d) (ap (λ us. best_form us v d) (sym e) ∙ same) (best-models model passes v d l)

pub best-shared : (ws : List ℕ) (v : ℕ) (d : Direction) (before : List ℕ) {after : List ℕ} {answer : Answer} →
    answer ≡ best_bits ws v d (length before) → after ≡ best_bitted ws v d before → BestShares ws v d answer after
best-shared ws v d before e f =
    rw (e, f) (λ n w. (wrote-best ws v d before n w, wrote-models ws v d before n w))
