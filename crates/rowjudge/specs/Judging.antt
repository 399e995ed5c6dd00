-- Judging the words of a row system from a place on.
use Rattle.std.specs.Prelude.{◌≡◌, Bool, true, false, List, ℕ, ◌+◌, ◌<◌, ◌≤◌, ℤ, Result, IfOk, length, drop}
use Rattle.integers.specs.Terms.{value}
use Rattle.words.specs.Answer.{Answer}
use Rattle.words.specs.Faults.{refusal_of, said_of}
use Rattle.words.specs.Judge.{first_false, first_out_of_bounds}
use Rattle.words.specs.Small.{Near}
use Rattle.words.specs.Variables.{variables}
use Rattle.words.specs.declared.answer.Verdict.{Verdict}
use Rattle.words.specs.declared.answer.Verdict.TheVariants.{Holds, OutOfBounds, False}
use Rattle.words.specs.declared.fault.Refusal.{Refusal}
use Rattle.rowsystems.specs.Row.{satisfied}
use Rattle.rowsystems.specs.RowSystem.{rows}
use Rattle.rowreading.specs.Item.{start_due}
use Rattle.rowreading.specs.Onward.{onward}
use Rattle.rowjudge.specs.declared.Judged.{Judged}

-- the value of variable x; where it is missing, none that bounds hold
abbrev pub ValueOrOutside : List ℤ → ℕ → ℤ → Type 0
ValueOrOutside vs x v = (x < length vs → v ≡ value vs x) × (length vs ≤ x → Near v → ⊥)

-- what the rows say with row k, which is true or not: the first false one stands
abbrev pub with_row : Verdict → Bool → ℕ → Verdict
with_row Holds true k = Holds
with_row Holds false k = False k
with_row (OutOfBounds i) holds k = OutOfBounds i
with_row (False i) holds k = False i

-- what the values say of the words from a place on, with n variables and k rows before it
unfoldable pub judged_on : List ℕ → List ℤ → ℕ → ℕ → ℕ → Answer
judged_on ws vs n at k = first_out_of_bounds (value vs) n (variables (drop at ws)) (first_false (satisfied (value vs)) k (rows (drop at ws)))

-- a judge from a place on tells the refusal, else the number of variables, and, where their values are there, what these say
pub record JudgedOn (ws : List ℕ) (vs : List ℤ) (sources : Bool) (n at k : ℕ) (r : Result Judged Refusal) : Type 0 where
  pub reads : refusal_of r ≡ onward (start_due sources) n at ws
  pub counts : IfOk r (λ j. j.variables ≡ n + length (variables (drop at ws)))
  pub says : IfOk r (λ j. j.variables ≤ length vs → said_of j.said ≡ judged_on ws vs n at k)
