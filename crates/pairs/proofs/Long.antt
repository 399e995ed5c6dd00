-- What a call answers of a candidate's model: that of copying where it is refused, else the call's own answer. A model of too many words is
-- refused by every call, whatever they are.
use Rattle.std.proofs.Common.{◌≡◌, refl, sym, ap, ◌∙◌, Bool, true, false, List, ℕ, zero, suc, ◌<◌, ◌≤◌, arith, ltb, eqb, ℤ, length, eq-eqb, ne_eqb, lt-ltb, le-ltb}
use Rattle.integers.specs.Choice.{◌if◌else◌}
use Rattle.words.specs.Refusals.{Refusal}
use Rattle.words.specs.Answer.{Answer, refused, refused_or, ◌else_answer◌}
use Rattle.words.specs.Refusal.{◌at_place◌, accepted, fault_or, ◌else_refuse◌}
use Rattle.models.specs.Reading.{read_model_in}
use Rattle.models.specs.JudgeModel.{judge_model}
use Rattle.rules.specs.Check.{check_fault, check_fault_in, check, check_in}
use Rattle.rules.specs.Translate.{translate_fault_in, translate, translate_in, translated, translated_in}
use Rattle.rules.specs.Fill.{fill_fault_in, fill, fill_in, filled, filled_in}
use Rattle.sharing.specs.SharedSolutions.{Passes}
use Rattle.checking.proofs.Answers.{clash}
use Rattle.pairs.specs.Pair.{separates, before, model_of, pair_fault}
use Rattle.pairs.specs.Calls.{pair_check, pair_translate, pair_translated, pair_judge, pair_fill, pair_filled}
use Rattle.pairs.specs.FaultyTable.{length_fault}
use Rattle.pairs.specs.Copied.{copy_fault}

-- ---- of words that are too many
module _ (ws : List ℕ) (l : ltb 8192 (length ws) ≡ true) where
  long-fault : check_fault ws ≡ (1 at_place 0)
  unfolding check_fault_in read_model_in ◌else_refuse◌
  long-fault = rw l

  long-check : check ws ≡ refused 1 0
  unfolding check_in check_fault_in read_model_in ◌else_refuse◌ ◌else_answer◌
  long-check = rw l

  long-translate : (room : ℕ) → translate ws room ≡ refused 1 0
  unfolding translate_in translate_fault_in check_fault_in read_model_in ◌else_refuse◌ ◌else_answer◌
  long-translate room = rw l

  long-translated : (out : List ℕ) → translated ws out ≡ out
  unfolding translated_in translate_fault_in check_fault_in read_model_in ◌else_refuse◌
  long-translated out = rw l

  long-judge : (vs : List ℤ) → judge_model ws vs ≡ refused 1 0
  unfolding judge_model read_model_in ◌else_refuse◌ ◌else_answer◌
  long-judge vs = rw l

  long-fill : (vs : List ℤ) (room : ℕ) → fill ws vs room ≡ refused 1 0
  unfolding fill_in fill_fault_in check_fault_in read_model_in ◌else_refuse◌ ◌else_answer◌
  long-fill vs room = rw l

  long_filled : (vs out : List ℤ) → filled ws vs out ≡ out
  unfolding filled_in fill_fault_in check_fault_in read_model_in ◌else_refuse◌
  long_filled vs out = rw l

-- ---- what copying says, and what a call says that refuses words that are too many

module _ (candidate : ℕ) (ws : List ℕ) where
  abbrev M : List ℕ
  M = model_of candidate ws

  abbrev TooLong : Bool → Refusal
  TooLong b = 1 at_place 0 if b else accepted

  module _ (f : List ℕ → Answer) where
    pub answer-refused : ((m : List ℕ) → ltb 8192 (length m) ≡ true → f m ≡ refused 1 0) → ((copy_fault candidate ws).number ≡ 0 → ⊥) →
        refused (copy_fault candidate ws).number (copy_fault candidate ws).place ≡ (pair_fault ws else_answer f M)
    unfolding copy_fault length_fault ◌else_refuse◌ ◌else_answer◌
    answer-refused long h = go (pair_fault ws).number (pair_fault ws).place (ltb 8192 (length M)) refl h
      where
        go : (n p : ℕ) (b : Bool) → ltb 8192 (length M) ≡ b → ((fault_or n p (TooLong b)).number ≡ 0 → ⊥) →
            refused (fault_or n p (TooLong b)).number (fault_or n p (TooLong b)).place ≡ refused_or n p (f M)
        go zero p true e k = sym (long M e)
        go zero p false e k = absurd (k refl)
        go (suc n) p b e k = refl

    pub answer-copied : (copy_fault candidate ws).number ≡ 0 → f M ≡ (pair_fault ws else_answer f M)
    unfolding copy_fault length_fault ◌else_refuse◌ ◌else_answer◌
    answer-copied h = go (pair_fault ws).number (pair_fault ws).place (ltb 8192 (length M)) h
      where
        go : (n p : ℕ) (b : Bool) → (fault_or n p (TooLong b)).number ≡ 0 → f M ≡ refused_or n p (f M)
        go zero p b k = refl
        go (suc n) p b k = absurd (omega arith)

  module _ {A : Type 0} (g : List ℕ → List A → List A) (out : List A) where
    pub output-refused : ((m : List ℕ) → ltb 8192 (length m) ≡ true → g m out ≡ out) → ((copy_fault candidate ws).number ≡ 0 → ⊥) →
        out ≡ (g M out if eqb (pair_fault ws).number 0 else out)
    unfolding copy_fault length_fault ◌else_refuse◌
    output-refused long h = go (pair_fault ws).number (pair_fault ws).place (ltb 8192 (length M)) refl h
      where
        go : (n p : ℕ) (b : Bool) → ltb 8192 (length M) ≡ b → ((fault_or n p (TooLong b)).number ≡ 0 → ⊥) → out ≡ (g M out if eqb n 0 else out)
        go zero p true e k = sym (long M e)
        go zero p false e k = absurd (k refl)
        go (suc n) p b e k = rw (ne_eqb (suc n) 0 (λ q. omega arith))

    pub output-copied : (copy_fault candidate ws).number ≡ 0 → g M out ≡ (g M out if eqb (pair_fault ws).number 0 else out)
    unfolding copy_fault length_fault ◌else_refuse◌
    output-copied h = go (pair_fault ws).number (pair_fault ws).place (ltb 8192 (length M)) h
      where
        go : (n p : ℕ) (b : Bool) → (fault_or n p (TooLong b)).number ≡ 0 → g M out ≡ (g M out if eqb n 0 else out)
        go zero p b k = refl
        go (suc n) p b k = absurd (omega arith)

  -- check
  pub check-refused : ((copy_fault candidate ws).number ≡ 0 → ⊥) → refused (copy_fault candidate ws).number (copy_fault candidate ws).place ≡ pair_check candidate ws
  unfolding pair_check
  check-refused h = answer-refused check long-check h

  pub check-copied : (copy_fault candidate ws).number ≡ 0 → check M ≡ pair_check candidate ws
  unfolding pair_check
  check-copied h = answer-copied check h

  -- translate
  pub translate-refused : (out : List ℕ) → ((copy_fault candidate ws).number ≡ 0 → ⊥) →
      (refused (copy_fault candidate ws).number (copy_fault candidate ws).place ≡ pair_translate candidate ws (length out)) × (out ≡ pair_translated candidate ws out)
  unfolding pair_translate pair_translated
  translate-refused out h =
      (answer-refused (λ m. translate m (length out)) (λ m l. long-translate m l (length out)) h, output-refused translated out (λ m l. long-translated m l out) h)

  pub translate-copied : (out : List ℕ) → (copy_fault candidate ws).number ≡ 0 →
      (translate M (length out) ≡ pair_translate candidate ws (length out)) × (translated M out ≡ pair_translated candidate ws out)
  unfolding pair_translate pair_translated
  translate-copied out h = (answer-copied (λ m. translate m (length out)) h, output-copied translated out h)

  -- judge-model
  pub judge-refused : (vs : List ℤ) → ((copy_fault candidate ws).number ≡ 0 → ⊥) →
      refused (copy_fault candidate ws).number (copy_fault candidate ws).place ≡ pair_judge candidate ws vs
  unfolding pair_judge
  judge-refused vs h = answer-refused (λ m. judge_model m vs) (λ m l. long-judge m l vs) h

  pub judge-copied : (vs : List ℤ) → (copy_fault candidate ws).number ≡ 0 → judge_model M vs ≡ pair_judge candidate ws vs
  unfolding pair_judge
  judge-copied vs h = answer-copied (λ m. judge_model m vs) h

  -- fill
  pub fill-refused : (vs out : List ℤ) → ((copy_fault candidate ws).number ≡ 0 → ⊥) →
      (refused (copy_fault candidate ws).number (copy_fault candidate ws).place ≡ pair_fill candidate ws vs (length out)) × (out ≡ pair_filled candidate ws vs out)
  unfolding pair_fill pair_filled
  fill-refused vs out h =
      (answer-refused (λ m. fill m vs (length out)) (λ m l. long-fill m l vs (length out)) h, output-refused (λ m o. filled m vs o) out (λ m l. long_filled m l vs out) h)

  pub fill-copied : (vs out : List ℤ) → (copy_fault candidate ws).number ≡ 0 →
      (fill M vs (length out) ≡ pair_fill candidate ws vs (length out)) × (filled M vs out ≡ pair_filled candidate ws vs out)
  unfolding pair_fill pair_filled
  fill-copied vs out h = (answer-copied (λ m. fill m vs (length out)) h, output-copied (λ m o. filled m vs o) out h)

  -- a model of a pair that copying refuses does not pass the check
  pub none_passes : ((copy_fault candidate ws).number ≡ 0 → ⊥) → pair_fault ws ≡ accepted → Passes M → ⊥
  unfolding copy_fault length_fault ◌else_refuse◌
  none_passes h e p = go (ltb 8192 (length M)) refl (rw e at h)
    where
      go : (b : Bool) → ltb 8192 (length M) ≡ b → ((TooLong b).number ≡ 0 → ⊥) → ⊥
      go true f k = clash (ap (λ (r : Refusal). r.number) (sym p ∙ long-fault M f))
      go false f k = k refl

-- ---- what copying says of each candidate

-- no word between the candidates
pub no-separator : (candidate : ℕ) (ws : List ℕ) (d : ℕ) → d ≡ before separates ws → d ≡ length ws → copy_fault candidate ws ≡ (2 at_place d)
unfolding copy_fault pair_fault ◌else_refuse◌
no-separator candidate ws d e f = rw (← e, f, eq-eqb (length ws) (length ws) refl)

module _ (candidate : ℕ) (ws : List ℕ) (n : ℕ) (some : before separates ws < length ws) (e : n ≡ length (model_of candidate ws)) where
  pub too_long : 8192 < n → copy_fault candidate ws ≡ (1 at_place 0)
  unfolding copy_fault pair_fault length_fault ◌else_refuse◌
  too_long h = rw (ne_eqb (before separates ws) (length ws) (λ q. omega arith), ← e, lt-ltb 8192 n h)

  pub no-fault : n ≤ 8192 → copy_fault candidate ws ≡ accepted
  unfolding copy_fault pair_fault length_fault ◌else_refuse◌
  no-fault h = rw (ne_eqb (before separates ws) (length ws) (λ q. omega arith), ← e, le-ltb 8192 n h)
