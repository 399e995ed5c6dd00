-- What check's answer says: a refusal of the reading is check's, a refusal of check has its fault, and counts are those of a model that passes.
use Rattle.std.proofs.Common.{◌≡◌, refl, sym, ◌∙◌, Bool, List, [], ◌∷◌, ℕ, zero, suc, ◌+◌, arith, length}
use Rattle.integers.specs.declared.Bounds.{Bounds}
use Rattle.words.specs.Variables.{variables}
use Rattle.words.specs.Refusals.{Refusal}
use Rattle.words.specs.Refusal.{◌at_place◌, accepted, ◌else_refuse◌}
use Rattle.words.specs.Answer.{Answer, refused, counts, refused_or, ◌else_answer◌}
use Rattle.words.proofs.Answers.{first-answers}
use Rattle.words.proofs.Reading as Reading
use Rattle.words.proofs.Reading.{passed-number}
use Rattle.models.specs.Model.{Constraint, constraints}
use Rattle.models.specs.Reading.{read_model}
use Rattle.rules.specs.Shared.{Encoded, none_yet, choice, encodes, encoded_after}
use Rattle.rules.specs.Translation.{bounds, shared, block_of, auxiliaries, system_words}
use Rattle.rules.specs.Check.{blocks_fault_in, check_fault, check_fault_in, check, check_in}
use Rattle.rules.specs.InRange.{block_fault, blocks_fault}
use Rattle.sharing.specs.SharedSolutions.{Passes}

-- ---- a refusal whose number is 0 is `accepted`

blocks-zero : (β : ℕ → Bounds) (s : ℕ → Bool) (first : ℕ) (e : Encoded) (cs : List Constraint) → (blocks_fault β s first e cs).number ≡ 0 → blocks_fault β s first e cs ≡ accepted
unfolding blocks_fault_in
blocks-zero β s first e [] z = refl
blocks-zero β s first e (c ∷ cs) z =
    let h = passed-number (block_fault β s first e c) c.place _ z in
    sym (Reading.no-fault (block_fault β s first e c) c.place _ h.0)
    ∙ blocks-zero β s (first + length (block_of β s e c).auxiliaries) (encoded_after s first e (encodes (choice c))) cs h.1

check-zero : (ws : List ℕ) → (check_fault ws).number ≡ 0 → Passes ws
unfolding check_fault_in ◌else_refuse◌
check-zero ws e =
    let h = passed-number (read_model ws).number (read_model ws).place _ e in
    sym (Reading.no-fault (read_model ws).number (read_model ws).place _ h.0) ∙ blocks-zero (bounds ws) (shared ws) (length (variables ws)) none_yet (constraints ws) h.1

-- ---- check's answer

pub clash : {A : Type 0} → ◌≡◌ {A = ℕ} 0 1 → A
clash e = absurd (omega arith)

no-refusal : {v c a r w : ℕ} (n p : ℕ) (after : Answer) → counts v c a r w ≡ refused_or n p after → (n ≡ 0) × (counts v c a r w ≡ after)
no-refusal zero p after e = (refl, e)
no-refusal (suc n) p after e = clash (cc)

-- a fault is answered before all else
pub refused-first : (n p : ℕ) (after : Answer) → (n ≡ 0 → ⊥) → refused n p ≡ refused_or n p after
refused-first zero p after f = absurd (f refl)
refused-first (suc n) p after f = refl

some-refusal : {n p : ℕ} (v c a r w m q : ℕ) → refused n p ≡ refused_or m q (counts v c a r w) → (n ≡ m) × (p ≡ q) × (m ≡ 0 → ⊥)
some-refusal v c a r w zero q e = clash (cc)
some-refusal v c a r w (suc m) q e = (cc, cc, λ z. omega arith)

-- a refusal of the reading is check's
pub read-refused : (ws : List ℕ) {n p : ℕ} → n at_place p ≡ read_model ws → (n ≡ 0 → ⊥) → refused n p ≡ check ws
unfolding check_in check_fault_in
read-refused ws {n} {p} k f =
    rw (← k) (first-answers n p (blocks_fault (bounds ws) (shared ws) (length (variables ws)) none_yet (constraints ws)) _ f)

-- a refusal of check stands before every other
pub check-stands : (ws : List ℕ) {n p : ℕ} → refused n p ≡ check ws → (n ≡ 0 → ⊥) × ((after : Refusal) → (check_fault ws else_refuse after) ≡ (n at_place p))
unfolding check_in ◌else_answer◌ ◌else_refuse◌
check-stands ws e =
    let h = some-refusal _ _ _ _ _ (check_fault ws).number (check_fault ws).place e in
    (λ z. h.2 (sym h.0 ∙ z), λ after. rw (h.0, h.1) (sym (Reading.some-fault (check_fault ws).number (check_fault ws).place after h.2)))

-- counts: no fault, and how many variables, auxiliaries and words there are
pub counted : (ws : List ℕ) {v c a r w : ℕ} → counts v c a r w ≡ check ws → Passes ws × (v ≡ length (variables ws)) × (a ≡ length (auxiliaries ws)) × (w ≡ length (system_words ws))
unfolding check_in ◌else_answer◌
counted ws e =
    let h = no-refusal (check_fault ws).number (check_fault ws).place _ e in
    let g = h.1 in
    (check-zero ws h.0, cc, cc, cc)
