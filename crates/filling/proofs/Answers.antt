-- The answers of fill of a model that passes the check, and what each leaves in the lent list.
use Rattle.std.proofs.Common.{◌≡◌, sym, ap, ◌∙◌, false, List, ◌++◌, ℕ, ◌+◌, ◌<◌, ◌≤◌, ℤ, arith, length, length-append, take, eq-eqb, ne_eqb, lt-ltb, le-ltb}
use Rattle.words.specs.Variables.{variables}
use Rattle.words.specs.Overlay.{overlay}
use Rattle.words.proofs.Overlay.{front-over}
use Rattle.words.specs.Refusal.{accepted, ◌else_refuse◌, count_fault, room_fault}
use Rattle.words.specs.Answer.{Answer, refused, written, holds, is_holds, ◌else_answer◌}
use Rattle.models.specs.JudgeModel.{judge_model, judge_accepted}
use Rattle.rules.specs.Translation.{picks, auxiliaries}
use Rattle.rules.specs.Fill.{filled_count, fill_fault_in, fill, fill_in, filled, filled_in}
use Rattle.rules.specs.InRange.{fill_fault}
use Rattle.sharing.specs.SharedSolutions.{Passes, SatisfiesModel}
use Rattle.sharing.proofs.Accepts.{passes-read}
use Rattle.sharing.proofs.Theorem.{fill-counts, fill-satisfies, fill_completes, only-fill}
use Rattle.sharing.proofs.Judged.{judge_model_says}
use Rattle.checking.proofs.Answers.{clash}
use Rattle.filling.specs.Satisfied.{Satisfied}
use Rattle.filling.specs.HandsOver.{HandsOver}

-- an answer of fill, the list afterwards, and that what was handed over satisfies the row system
abbrev pub Gives : List ℕ → List ℤ → List ℤ → Answer → List ℤ → Type 0
Gives ws vs out answer out' = (answer ≡ fill ws vs (length out)) × ((out' ≡ filled ws vs out) × Satisfied ws answer out')

-- a refusal hands over nothing
pub none-handed : (ws : List ℕ) {n p : ℕ} (out : List ℤ) → Satisfied ws (refused n p) out
none-handed ws out m e = clash (cc)

-- how many values and auxiliaries there are, which are the front of what was written
handed-count : (ws : List ℕ) → Passes ws → (vs : List ℤ) → length vs ≡ length (variables ws) → length (vs ++ picks ws vs) ≡ length (variables ws) + length (auxiliaries ws)
handed-count ws passes vs e = omega (arith, length-append vs (picks ws vs), e, fill-counts ws passes vs)

pub handed-front : (ws : List ℕ) → Passes ws → (vs : List ℤ) → length vs ≡ length (variables ws) → (out : List ℤ) → length (variables ws) + length (auxiliaries ws) ≤ length out →
    take (length (variables ws) + length (auxiliaries ws)) (overlay out 0 (vs ++ picks ws vs)) ≡ vs ++ picks ws vs
handed-front ws passes vs e out l =
    let n = handed-count ws passes vs e in
    rw (← n) (front-over out (vs ++ picks ws vs) (omega (arith, n)))

-- what was written satisfies the row system
handed-over : (ws : List ℕ) → Passes ws → (vs : List ℤ) → SatisfiesModel ws vs → (out : List ℤ) → length (variables ws) + length (auxiliaries ws) ≤ length out →
    Satisfied ws (written (length (variables ws) + length (auxiliaries ws))) (overlay out 0 (vs ++ picks ws vs))
handed-over ws passes vs s out l m e =
    let j : m ≡ length (variables ws) + length (auxiliaries ws) = cc in
    rw (j, handed-front ws passes vs s.one_each out l) (fill-satisfies ws passes vs s)

module _ (ws : List ℕ) (passes : Passes ws) (vs : List ℤ) (out : List ℤ) where
  pub wrong-count : (length vs ≡ length (variables ws) → ⊥) → Gives ws vs out (refused 15 0) out
  unfolding fill_in filled_in fill_fault_in count_fault ◌else_refuse◌ ◌else_answer◌
  wrong-count f = let e = ne_eqb (length vs) (length (variables ws)) f in (rw (passes, e), (rw (passes, e), none-handed ws out))

  module _ (counted : length vs ≡ length (variables ws)) where
    pub too_short : length out < length (variables ws) + length (auxiliaries ws) → Gives ws vs out (refused 16 0) out
    unfolding fill_in filled_in fill_fault_in filled_count count_fault room_fault ◌else_refuse◌ ◌else_answer◌
    too_short l =
        let e = eq-eqb (length vs) (length (variables ws)) counted in
        let s = lt-ltb (length out) (length (variables ws) + length (auxiliaries ws)) l in
        (rw (passes, e, s), (rw (passes, e, s), none-handed ws out))

    module _ (room : length (variables ws) + length (auxiliaries ws) ≤ length out) where
      no-fault : fill_fault ws vs (length out) ≡ accepted
      unfolding fill_fault_in filled_count count_fault room_fault ◌else_refuse◌
      no-fault = rw (passes, eq-eqb (length vs) (length (variables ws)) counted, le-ltb (length out) (length (variables ws) + length (auxiliaries ws)) room)

      -- judge-model says of the values what it says of accepted words
      judged : judge_model ws vs ≡ judge_accepted ws vs
      unfolding judge_model count_fault ◌else_refuse◌ ◌else_answer◌
      judged = rw (passes-read ws passes, eq-eqb (length vs) (length (variables ws)) counted)

      pub held : judge_model ws vs ≡ holds → Gives ws vs out (written (length (variables ws) + length (auxiliaries ws))) (overlay out 0 (vs ++ picks ws vs))
      unfolding fill_in filled_in filled_count is_holds ◌else_answer◌
      held h =
          let s = (judge_model_says ws (passes-read ws passes) vs).0 h in
          (rw (no-fault, sym judged ∙ h), (rw (no-fault, sym judged ∙ h), handed-over ws passes vs s out room))

      pub not-held : (answer : Answer) → answer ≡ judge_model ws vs → is_holds answer ≡ false → ((n : ℕ) → answer ≡ written n → ⊥) → Gives ws vs out answer out
      unfolding fill_in filled_in ◌else_answer◌
      not-held answer h n f = (rw (no-fault, sym judged ∙ sym h, n), (rw (no-fault, sym judged ∙ sym h, n), λ m e. absurd (f m e)))

-- fill's own answer and list are such that every list that satisfies the model is handed over with its auxiliaries
pub hands-over : (ws : List ℕ) (vs out : List ℤ) {answer : Answer} {out' : List ℤ} → Gives ws vs out answer out' → HandsOver ws vs answer out out'
hands-over ws vs out g passes s room =
    let h = held ws passes vs out s.one_each room ((judge_model_says ws (passes-read ws passes) vs).1 s) in
    (picks ws vs, fill_completes ws passes vs s, λ ys c. (only-fill ws passes vs ys c).1, g.0 ∙ sym h.0 ∙ ap written (sym (handed-count ws passes vs s.one_each)), g.1.0 ∙ sym h.1.0)
