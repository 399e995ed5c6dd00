-- What each fault says of the call's answer, in their order; else what the taken form gives.
use Rattle.std.proofs.Common.{◌≡◌, refl, ◌∙◌, subst, List, ℕ, ◌≤◌, ◌<◌, arith, ℤ, pos, length, lt-ltb, le-ltb, ne_eqb}
use mathlib.Core.Path.{fun_ext}
use Rattle.words.specs.Variables.{variables}
use Rattle.words.specs.Refusal.{◌at_place◌, accepted, ◌else_refuse◌, room_fault}
use Rattle.words.specs.Answer.{Answer, refused}
use Rattle.words.specs.Refusals.{Refusal}
use Rattle.words.proofs.Answers.{first-answers}
use Rattle.words.proofs.Reading.{some-fault}
use Rattle.rowsystems.specs.Reading.{read_rows}
use Rattle.bitforms.specs.Matrix.{coefficient_of}
use Rattle.bitforms.specs.BitForm.{bit_count}
use Rattle.bitforms.specs.FormAnswer.{size_fault}
use Rattle.bitform.specs.Answered.{AnsweredTaken}
use Rattle.bestforms.specs.declared.Direction.{Direction}
use Rattle.bestforms.specs.BestForm.{factor, objective, best_constant, best_entries, best_words}
use Rattle.bestforms.specs.BestAnswer.{variable_fault, best_fits, best_number_fault, best_bits_fault, best_bits, best_bitted}
use Rattle.bestbits.specs.Answered.{AnsweredBest}

module _ (ws : List ℕ) (v : ℕ) (d : Direction) (out : List ℕ) where
  pub refuses : (n p : ℕ) (after : Refusal) → (n ≡ 0 → ⊥) → best_bits_fault ws v d (length out) ≡ (n at_place p else_refuse after) → AnsweredBest ws v d out out (refused n p)
  unfolding best_bits best_bitted ◌else_refuse◌
  refuses n p after f e = record { says = rw e (first-answers n p after _ f); holds = rw (e, ← some-fault n p after f, ne_eqb n 0 f) }

  pub stands : (r : Refusal) → r ≡ read_rows ws → (r.number ≡ 0 → ⊥) → AnsweredBest ws v d out out (refused r.number r.place)
  unfolding best_bits_fault
  stands r e f =
      refuses r.number r.place (size_fault ws else_refuse (variable_fault ws v else_refuse (best_number_fault ws v d else_refuse room_fault (length out) (length (best_words ws v d))))) f (rw (← e))

  module _ (z : read_rows ws ≡ accepted) where
    pub too_many : 1024 < bit_count ws → AnsweredBest ws v d out out (refused 23 0)
    unfolding best_bits_fault size_fault ◌else_refuse◌
    too_many l = refuses 23 0 accepted (λ x. omega arith) (rw (z, lt-ltb 1024 (bit_count ws) l))

    pub no_variable : bit_count ws ≤ 1024 → length (variables ws) ≤ v → AnsweredBest ws v d out out (refused 26 0)
    unfolding best_bits_fault size_fault variable_fault ◌else_refuse◌
    no_variable l h = refuses 26 0 accepted (λ x. omega arith) (rw (z, le-ltb 1024 (bit_count ws) l, le-ltb v (length (variables ws)) h))

    -- of the form that is taken M times, with the variable's distance added
    taken : bit_count ws ≤ 1024 → v < length (variables ws) → {after : List ℕ} {answer : Answer} →
        AnsweredTaken ws (pos (factor ws v)) (objective ws v d).constant (coefficient_of (objective ws v d).terms) out after answer → AnsweredBest ws v d out after answer
    unfolding best_bits best_bitted best_bits_fault size_fault variable_fault best_number_fault best_fits best_words best_constant best_entries ◌else_refuse◌
    taken l h t =
        let k = le-ltb 1024 (bit_count ws) l in
        let n = lt-ltb v (length (variables ws)) h in
        record { says = t.says ∙ rw (z, k, n) refl; holds = t.holds ∙ rw (z, k, n) refl }

    pub best-taken : bit_count ws ≤ 1024 → v < length (variables ws) → {k c : ℤ} {a : ℕ → ℤ} {after : List ℕ} {answer : Answer} →
        k ≡ pos (factor ws v) → c ≡ (objective ws v d).constant → ((i : ℕ) → a i ≡ coefficient_of (objective ws v d).terms i) →
        AnsweredTaken ws k c a out after answer → AnsweredBest ws v d out after answer
    best-taken l h {k} {c} {a} {after} {answer} e f g t =
        taken l h (rw (← e, ← f) (subst (λ b. AnsweredTaken ws k c b out after answer) (fun_ext g) t))
