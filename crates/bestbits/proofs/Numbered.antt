-- Of a number that is no direction's the call refuses, after the same faults, a variable that no row system has.
use Rattle.std.proofs.Common.{◌≡◌, refl, sym, ◌∙◌, List, ℕ, zero, suc, arith, length, le-ltb}
use Rattle.words.specs.Variables.{variables}
use Rattle.words.specs.Refusal.{◌at_place◌, accepted, ◌else_refuse◌, fault_or}
use Rattle.words.specs.Answer.{refused}
use Rattle.words.specs.Refusals.{Refusal}
use Rattle.words.proofs.Reading.{some-fault}
use Rattle.rowsystems.specs.Reading.{read_rows}
use Rattle.rowsystems.proofs.FewVariables.{few-variables}
use Rattle.bitforms.specs.FormAnswer.{size_fault}
use Rattle.bitanswers.proofs.Faults.{accepts}
use Rattle.bestforms.specs.declared.Direction.TheVariants.{Least}
use Rattle.bestforms.specs.BestAnswer.{variable_fault, best_bits_fault, best_bits, best_bitted}
use Rattle.bestforms.specs.Numbered.{direction_fault, best_bits_by, best_bitted_by}
use Rattle.bestbits.specs.Answered.{AnsweredBest}
use Rattle.bestbits.proofs.Answers.{refuses}

-- a fault that comes last is one of all
last-fault : (r s : Refusal) (n p : ℕ) → (r else_refuse (s else_refuse (suc n at_place p))).number ≡ 0 → ⊥
unfolding ◌else_refuse◌
last-fault r s n p e = go r.number s.number e
  where
    go : (k m : ℕ) → (fault_or k r.place (fault_or m s.place (suc n at_place p))).number ≡ 0 → ⊥
    go zero zero e = omega (arith, e)
    go zero (suc m) e = omega (arith, e)
    go (suc k) m e = omega (arith, e)

module _ (ws : List ℕ) (room : ℕ) where
  fails : (direction_fault ws).number ≡ 0 → ⊥
  unfolding direction_fault
  fails = last-fault (read_rows ws) (size_fault ws) 25 0

  -- the faults of variable 4,096
  same-fault : best_bits_fault ws 4096 Least room ≡ direction_fault ws
  unfolding best_bits_fault variable_fault direction_fault ◌else_refuse◌
  same-fault = go (read_rows ws).number refl
    where
      go : (n : ℕ) → (read_rows ws).number ≡ n → best_bits_fault ws 4096 Least room ≡ direction_fault ws
      go zero e = rw (le-ltb 4096 (length (variables ws)) (few-variables ws (accepts ws e))) refl
      go (suc n) e = rw e refl

pub no_direction : (ws out : List ℕ) → AnsweredBest ws 4096 Least out out (refused (direction_fault ws).number (direction_fault ws).place)
unfolding ◌else_refuse◌
no_direction ws out =
    let f = fails ws (length out) in
    refuses ws 4096 Least out (direction_fault ws).number (direction_fault ws).place accepted f
    (same-fault ws (length out) ∙ some-fault (direction_fault ws).number (direction_fault ws).place accepted f)

module _ (ws : List ℕ) (v : ℕ) (out : List ℕ) where
  pub answer-none : (k : ℕ) → (k ≡ 0 → ⊥) → (k ≡ 1 → ⊥) → best_bits ws 4096 Least (length out) ≡ best_bits_by ws v k (length out)
  unfolding best_bits_by
  answer-none zero f g = absurd (f refl)
  answer-none (suc zero) f g = absurd (g refl)
  answer-none (suc (suc k)) f g = sym (no_direction ws out).says

  pub output-none : (k : ℕ) → (k ≡ 0 → ⊥) → (k ≡ 1 → ⊥) → best_bitted ws 4096 Least out ≡ best_bitted_by ws v k out
  unfolding best_bitted_by
  output-none zero f g = absurd (f refl)
  output-none (suc zero) f g = absurd (g refl)
  output-none (suc (suc k)) f g = sym (no_direction ws out).holds
