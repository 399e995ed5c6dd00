-- Demand 3 in the judges' own words, and what fill's values keep.
use Rattle.std.proofs.Common.{◌≡◌, refl, sym, ap, ◌∙◌, ◌↔◌, Bool, true, false, List, ◌++◌, ℕ, eqb, ℤ, length, eqb-true, eq-eqb}
use Rattle.integers.specs.Choice.{◌if◌else◌}
use Rattle.integers.specs.Terms.{value}
use Rattle.integers.proofs.Tests.{false-true}
use Rattle.words.specs.Variables.{variables}
use Rattle.words.specs.Refusal.{◌at_place◌, accepted, ◌else_refuse◌, count_fault}
use Rattle.words.specs.Answer.{Answer, refused, holds, is_holds, ◌else_answer◌}
use Rattle.words.specs.Judge.{judge}
use Rattle.words.specs.Refusals.{Refusal}
use Rattle.words.proofs.Judge.{judge-holds}
use Rattle.models.specs.Reading.{read_model}
use Rattle.models.specs.Model.{constraints, builtin}
use Rattle.models.specs.Meaning.{meaning}
use Rattle.models.specs.JudgeModel as JudgeModel
use Rattle.models.specs.JudgeModel.{judge_model}
use Rattle.rowsystems.specs.Row.{satisfied}
use Rattle.rowsystems.specs.RowSystem.{rows}
use Rattle.rowsystems.specs.Reading.{read_rows}
use Rattle.rowsystems.specs.JudgeRows as JudgeRows
use Rattle.rowsystems.specs.JudgeRows.{judge_rows}
use Rattle.rules.specs.Translation.{system_words, auxiliaries, picks}
use Rattle.sharing.specs.SharedSolutions.{Passes, Satisfies, SatisfiesModel, SatisfiesRows}
use Rattle.sharing.proofs.Accepts.{passes-read}
use Rattle.sharing.proofs.Theorem.{written_read, fill-satisfies, shared-solutions}

-- a refusal is not "holds"
not-refused : (n p : ℕ) → refused n p ≡ holds → ⊥
unfolding is_holds
not-refused n p e = false-true (ap is_holds e)

-- of words without a fault: as many values as variables, and what comes after
counted : (ws : List ℕ) (vs : List ℤ) (read : Refusal) → read ≡ accepted → (after : Answer) →
    (((read else_refuse count_fault ws vs) else_answer after) ≡ holds) ↔ ((length vs ≡ length (variables ws)) × (after ≡ holds))
unfolding ◌else_refuse◌ ◌else_answer◌ count_fault
counted ws vs read e after = rw e (go (eqb (length vs) (length (variables ws))) refl)
  where
    go : (b : Bool) → eqb (length vs) (length (variables ws)) ≡ b →
        (((accepted if b else (15 at_place 0)) else_answer after) ≡ holds) ↔ ((length vs ≡ length (variables ws)) × (after ≡ holds))
    go true i = (λ h. (eqb-true _ _ i, h), λ h. h.1)
    go false i = (λ h. absurd (not-refused 15 0 h), λ h. false-true (sym i ∙ eq-eqb _ _ h.0))

-- a judge of words without a fault says "holds" exactly of what satisfies them
judged : {A : Type 0} (ws : List ℕ) (vs : List ℤ) (read : Refusal) → read ≡ accepted → (t : A → Bool) (xs : List A) →
    (((read else_refuse count_fault ws vs) else_answer judge (value vs) (variables ws) t xs) ≡ holds) ↔ Satisfies (variables ws) t xs vs
judged ws vs read e t xs =
    let c = counted ws vs read e (judge (value vs) (variables ws) t xs) in
    let j = judge-holds (value vs) (variables ws) t xs in (
      λ h. let s = j.0 (c.0 h).1 in record { one_each = (c.0 h).0; in_bounds = s.0; all_true = s.1 },
      λ s. c.1 (s.one_each, j.1 (s.in_bounds, s.all_true)),
    )

pub judge_model_says : (ws : List ℕ) → read_model ws ≡ accepted → (vs : List ℤ) → (judge_model ws vs ≡ holds) ↔ SatisfiesModel ws vs
unfolding judge_model JudgeModel.judge_accepted
judge_model_says ws e vs = judged ws vs (read_model ws) e (λ c. meaning (value vs) (builtin c)) (constraints ws)

pub judge_rows_says : (ws : List ℕ) → read_rows ws ≡ accepted → (vs : List ℤ) → (judge_rows ws vs ≡ holds) ↔ SatisfiesRows ws vs
unfolding judge_rows JudgeRows.judge_accepted
judge_rows_says ws e vs = judged ws vs (read_rows ws) e (satisfied (value vs)) (rows ws)

module _ (ws : List ℕ) (passes : Passes ws) where
  of-written : (ys : List ℤ) → (judge_rows (system_words ws) ys ≡ holds) ↔ SatisfiesRows (system_words ws) ys
  of-written = judge_rows_says (system_words ws) (written_read ws passes)

  -- judge-model says "holds" exactly where judge-rows says it of the written words for some auxiliaries
  pub judges-agree : (vs : List ℤ) →
      (judge_model ws vs ≡ holds)
      ↔ ((xs : List ℤ) × ((length xs ≡ length (auxiliaries ws)) × (judge_rows (system_words ws) (vs ++ xs) ≡ holds)))
  judges-agree vs =
      let m = judge_model_says ws (passes-read ws passes) vs in
      let s = shared-solutions ws passes vs in (
        λ h. let x = s.0 (m.0 h) in (x.0, (x.1.0, (of-written (vs ++ x.0)).1 x.1.1)),
        λ x. m.1 (s.1 (x.0, (x.1.0, (of-written (vs ++ x.0)).0 x.1.1))),
      )

  -- it says so of the values and fill's picks
  pub fill_holds : (vs : List ℤ) → judge_model ws vs ≡ holds → judge_rows (system_words ws) (vs ++ picks ws vs) ≡ holds
  fill_holds vs h =
      (of-written (vs ++ picks ws vs)).1
      (fill-satisfies ws passes vs ((judge_model_says ws (passes-read ws passes) vs).0 h))
