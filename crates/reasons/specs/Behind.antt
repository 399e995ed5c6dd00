-- What a row, a constraint and a reason that are named say of a model and its row system.
use Rattle.std.specs.Prelude.{◌≡◌, Bool, true, false, not, ◌&&◌, ℕ, zero, suc, ◌+◌, ◌≤◌, ◌<◌, ltb, ℤ, length, take}
use mathlib.Core.List.{List, [], ◌∷◌, ◌++◌, map, flat_map}
use Rattle.integers.specs.Number.{◌≟◌}
use Rattle.integers.specs.Lists.{any}
use Rattle.integers.specs.Terms.{value}
use Rattle.words.specs.Variables.{variables}
use Rattle.words.specs.Answer.{holds, out_of_bounds, is_false}
use Rattle.models.specs.Model.{Constraint, constraints, builtin}
use Rattle.models.specs.Meaning.{meaning}
use Rattle.rowsystems.specs.Row.{Row, sum≤0, sum=0, product, satisfied}
use Rattle.rowsystems.specs.RowSystem.{rows}
use Rattle.rowsystems.specs.JudgeRows.{judge_rows}
use Rattle.rules.specs.Translation.{system_words, picks}
use Rattle.reasons.specs.Reason.{Reason, refuse, outside, none, because, explained}

-- x stands at place k of a list
abbrev pub At : {A : Type 0} → List A → ℕ → A → Type 0
At [] k x = ⊥
At (y ∷ ys) zero x = y ≡ x
At (y ∷ ys) (suc k) x = At ys k x

-- the variables that a row names
abbrev pub row_variables : {X : Type 0} → Row X → List X
row_variables (sum≤0 ts c) = map (λ t. t.variable) ts
row_variables (sum=0 ts c) = map (λ t. t.variable) ts
row_variables (product r f g) = r ∷ f ∷ g ∷ []

-- how many rows the blocks of the first j constraints have
unfoldable pub rows_before : List ℕ → ℕ → ℕ
rows_before ws j = length (flat_map (λ x. x.rows) (take j (explained ws)))

-- the source values, and what fill picks for the auxiliaries
abbrev pub source_values : List ℕ → List ℤ → List ℤ
source_values ws vs = take (length (variables ws)) vs

abbrev pub completed : List ℕ → List ℤ → List ℤ
completed ws vs = source_values ws vs ++ picks ws (source_values ws vs)

-- a variable is an auxiliary, of whichever block, and its value is not the one that fill picks
abbrev pub wrong : List ℕ → List ℤ → ℕ → Bool
wrong ws vs x = not (ltb x (length (variables ws))) && not (value vs x ≟ value (completed ws vs) x)

pub record Behind (ws : List ℕ) (vs : List ℤ) (k j : ℕ) (true_of_sources : Bool) : Type 0 where
  -- the first row that fails: row k of the row system, as judge-rows names it
  pub row : Row ℕ
  pub numbered : At (rows (system_words ws)) k row
  pub fails : satisfied (value vs) row ≡ false
  pub named : judge_rows (system_words ws) vs ≡ is_false k
  -- the constraint in whose block that row is
  pub constraint : Constraint
  pub placed : At (constraints ws) j constraint
  pub from : rows_before ws j ≤ k
  pub before : k < rows_before ws (j + 1)
  -- whether its builtin is true of the source values
  pub said : true_of_sources ≡ meaning (value (source_values ws vs)) (builtin constraint)
  -- where it is, some auxiliary of the row has a wrong value
  pub auxiliaries : true_of_sources ≡ true → any (wrong ws vs) (row_variables row) ≡ true

-- what an answer of reason says is so: a value out of bounds is the one that judge-rows names, "none" means that judge-rows says "holds", and a named row is one
-- that fails for the reason that is given
abbrev pub TrueReason : List ℕ → List ℤ → Reason → Type 0
TrueReason ws vs (refuse n p) = Unit {0}
TrueReason ws vs (outside i) = judge_rows (system_words ws) vs ≡ out_of_bounds i
TrueReason ws vs none = judge_rows (system_words ws) vs ≡ holds
TrueReason ws vs (because k j true_of_sources) = Behind ws vs k j true_of_sources
