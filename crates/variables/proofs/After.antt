-- What comes after the values are judged: where there are as many as variables, each within its bounds, whatever is to be judged next.
use Rattle.std.proofs.Common.{◌≡◌, refl, Bool, true, false, List, [], ◌∷◌, ℕ, zero, suc, ◌+◌, arith, eqb, ℤ, length, eqb-true}
use Rattle.integers.specs.Choice.{◌if◌else◌}
use Rattle.integers.specs.Bounds.{within}
use Rattle.integers.specs.Terms.{Valuation, value}
use Rattle.integers.specs.declared.Bounds.{Bounds}
use Rattle.integers.proofs.Tests.{false-true}
use Rattle.words.specs.Answer.{Answer, holds, out_of_bounds, is_holds, refused_or, ◌else_answer◌}
use Rattle.words.specs.Fault as Fault
use Rattle.words.specs.Judge.{first_out_of_bounds}
use Rattle.words.specs.Refusal.{◌at_place◌, accepted, fault_or, ◌else_refuse◌, count_fault}
use Rattle.words.specs.Small.{Small}
use Rattle.words.specs.Variables.{variables}
use Rattle.words.specs.Refusals.{Refusal}
use Rattle.words.proofs.Answers.{is-holds}
use Rattle.variables.specs.Judged.{judged_then}
use Rattle.variables.proofs.Small.{small}

module _ (σ : Valuation) (after : Answer) where
  pub next : (k : ℕ) (Bs : List Bounds) → first_out_of_bounds σ k Bs holds ≡ holds → after ≡ first_out_of_bounds σ k Bs after
  unfolding first_out_of_bounds
  next k [] e = refl
  next k (B ∷ Bs) e = go (within B (σ k)) e (next (k + 1) Bs)
    where
      go : (b : Bool) → (first_out_of_bounds σ (k + 1) Bs holds if b else out_of_bounds k) ≡ holds →
          (first_out_of_bounds σ (k + 1) Bs holds ≡ holds → after ≡ first_out_of_bounds σ (k + 1) Bs after) →
          after ≡ (first_out_of_bounds σ (k + 1) Bs after if b else out_of_bounds k)
      go true e f = f e
      go false e f = absurd (let z : ◌≡◌ {A = ℕ} 0 1 = cc in omega arith)

  pub found : (k : ℕ) (Bs : List Bounds) → is_holds (first_out_of_bounds σ k Bs holds) ≡ false → first_out_of_bounds σ k Bs holds ≡ first_out_of_bounds σ k Bs after
  unfolding first_out_of_bounds is_holds
  found k [] e = absurd (let z : ◌≡◌ {A = ℕ} 0 1 = cc in omega arith)
  found k (B ∷ Bs) e = go (within B (σ k)) e (found (k + 1) Bs)
    where
      go : (b : Bool) → is_holds (first_out_of_bounds σ (k + 1) Bs holds if b else out_of_bounds k) ≡ false →
          (is_holds (first_out_of_bounds σ (k + 1) Bs holds) ≡ false → first_out_of_bounds σ (k + 1) Bs holds ≡ first_out_of_bounds σ (k + 1) Bs after) →
          (first_out_of_bounds σ (k + 1) Bs holds if b else out_of_bounds k) ≡ (first_out_of_bounds σ (k + 1) Bs after if b else out_of_bounds k)
      go true e f = f e
      go false e f = refl

-- where there is no refusal, there are as many values as variables
pub as_many : (read : Refusal) (ws : List ℕ) (vs : List ℤ) → (read else_refuse count_fault ws vs).number ≡ 0 → length vs ≡ length (variables ws)
unfolding ◌else_refuse◌ count_fault
as_many read ws vs e = go (eqb (length vs) (length (variables ws))) refl (second read.number read.place (count_fault ws vs) e)
  where
    second : (n p : ℕ) (s : Refusal) → (fault_or n p s).number ≡ 0 → s.number ≡ 0
    second zero p s e = e
    second (suc n) p s e = absurd (omega arith)

    go : (b : Bool) → eqb (length vs) (length (variables ws)) ≡ b → (accepted if b else Fault.wrong_value_count at_place 0).number ≡ 0 → length vs ≡ length (variables ws)
    go true t e = eqb-true _ _ t
    go false t e = absurd (omega arith)

module _ (read : Refusal) (ws : List ℕ) (vs : List ℤ) where
  abbrev first : Refusal
  first = read else_refuse count_fault ws vs

  abbrev out : Answer → Answer
  out after = first_out_of_bounds (value vs) 0 (variables ws) after

  pub go_on : is_holds (judged_then read ws vs holds) ≡ true → Small vs × ((after : Answer) → after ≡ judged_then read ws vs after)
  unfolding ◌else_answer◌ is_holds
  go_on t = go first.number first.place (as_many read ws vs) t
    where
      go : (n p : ℕ) → (n ≡ 0 → length vs ≡ length (variables ws)) → is_holds (refused_or n p (out holds)) ≡ true → Small vs × ((after : Answer) → after ≡ refused_or n p (out after))
      go zero p e t = let k = is-holds (out holds) t in (small ws vs (e refl) k, λ after. next (value vs) after 0 (variables ws) k)
      go (suc n) p e t = false-true t

  pub stop : is_holds (judged_then read ws vs holds) ≡ false → (after : Answer) → judged_then read ws vs holds ≡ judged_then read ws vs after
  unfolding ◌else_answer◌
  stop t after = go first.number first.place t
    where
      go : (n p : ℕ) → is_holds (refused_or n p (out holds)) ≡ false → refused_or n p (out holds) ≡ refused_or n p (out after)
      go zero p t = found (value vs) after 0 (variables ws) t
      go (suc n) p t = refl
