-- What check's refusal says of fill's answer: it stands.
use Rattle.std.proofs.Common.{◌≡◌, List, ℕ, ℤ, length, ne_eqb}
use Rattle.words.specs.Refusal.{◌at_place◌}
use Rattle.words.specs.Answer.{refused, ◌else_answer◌}
use Rattle.rules.specs.Check.{check}
use Rattle.rules.specs.Fill.{fill_fault_in, fill_in, filled_in}
use Rattle.rules.specs.InRange.{fill_fault}
use Rattle.checking.proofs.Answers.{refused-first, check-stands}
use Rattle.filling.proofs.Answers.{Gives, none-handed}

-- check's refusal stands
module _ (ws : List ℕ) (vs out : List ℤ) where
  refuses : {n p : ℕ} → (n ≡ 0 → ⊥) → fill_fault ws vs (length out) ≡ (n at_place p) → Gives ws vs out (refused n p) out
  unfolding fill_in filled_in ◌else_answer◌
  refuses {n} {p} f e = (rw e (refused-first n p _ f), (rw (e, ne_eqb n 0 f), none-handed ws out))

  pub stands : {n p : ℕ} → refused n p ≡ check ws → Gives ws vs out (refused n p) out
  unfolding fill_fault_in
  stands e = let h = check-stands ws e in refuses h.0 (h.1 _)
