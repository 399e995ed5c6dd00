-- Refusals, one after the other, before an answer: the first one with a fault answers. And the answer "holds".
use Rattle.std.proofs.Common.{◌≡◌, refl, true, List, ℕ, zero, suc, ℤ, length, eq-eqb, ne_eqb}
use Rattle.words.specs.Variables.{variables}
use Rattle.words.specs.Refusals.{Refusal}
use Rattle.words.specs.Refusal.{◌at_place◌, ◌else_refuse◌, count_fault}
use Rattle.words.specs.Answer.{Answer, refused, counts, written, holds, out_of_bounds, is_false, ◌else_answer◌, is_holds}
use Rattle.integers.proofs.Tests.{false-true}

-- a refusal with a fault answers
pub first-answers : (n p : ℕ) (s : Refusal) (after : Answer) → (n ≡ 0 → ⊥) → refused n p ≡ ((n at_place p else_refuse s) else_answer after)
unfolding ◌else_refuse◌ ◌else_answer◌
first-answers zero p s after f = absurd (f refl)
first-answers (suc n) p s after f = refl

-- one without lets the second answer
pub second-answers : (n p : ℕ) (s : Refusal) (after : Answer) → n ≡ 0 → (s else_answer after) ≡ ((n at_place p else_refuse s) else_answer after)
unfolding ◌else_refuse◌
second-answers n p s after e = rw e

-- the number of values: one for each variable, or fault 15
module _ (ws : List ℕ) (vs : List ℤ) (after : Answer) where
  pub right-count : length vs ≡ length (variables ws) → after ≡ (count_fault ws vs else_answer after)
  unfolding count_fault ◌else_answer◌
  right-count e = rw (eq-eqb (length vs) (length (variables ws)) e)

  pub wrong-count : (length vs ≡ length (variables ws) → ⊥) → refused 15 0 ≡ (count_fault ws vs else_answer after)
  unfolding count_fault ◌else_answer◌
  wrong-count f = rw (ne_eqb (length vs) (length (variables ws)) f)

-- no other answer is "holds"
pub is-holds : (a : Answer) → is_holds a ≡ true → a ≡ holds
unfolding is_holds
is-holds (refused n p) e = false-true e
is-holds (counts v c a r w) e = false-true e
is-holds (written n) e = false-true e
is-holds holds e = refl
is-holds (out_of_bounds i) e = false-true e
is-holds (is_false i) e = false-true e
