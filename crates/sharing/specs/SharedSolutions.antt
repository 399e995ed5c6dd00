-- 01, The words of demand 3: a model and its row system share their solutions. Whole numbers, their sums and products have no limit of size here.
use Rattle.std.specs.Prelude.{◌≡◌, ◌↔◌, Bool, true, List, ◌++◌, ℕ, ◌<◌, ℤ, length}
use Rattle.integers.specs.Lists.{all}
use Rattle.integers.specs.Bounds.{within, bounds_in}
use Rattle.integers.specs.Terms.{value}
use Rattle.integers.specs.declared.Bounds.{Bounds}
use Rattle.words.specs.Variables.{variables}
use Rattle.words.specs.Refusal.{accepted}
use Rattle.models.specs.Meaning.{meaning}
use Rattle.models.specs.Model.{constraints, builtin}
use Rattle.rowsystems.specs.Row.{satisfied}
use Rattle.rowsystems.specs.RowSystem.{rows}
use Rattle.rules.specs.Translation.{auxiliaries}
use Rattle.rules.specs.Check.{check_fault}

-- "a model passes the check when check finds no fault in it"
abbrev pub Passes : List ℕ → Type 0
Passes model = check_fault model ≡ accepted

-- one value for each variable; "not below the lower and not above the upper"; and every item passes the test
pub record Satisfies {A : Type 0} (Bs : List Bounds) (test : A → Bool) (items : List A) (vs : List ℤ) : Type 0 where
  pub one_each : length vs ≡ length Bs
  pub in_bounds : (v : ℕ) → v < length Bs → within (bounds_in Bs v) (value vs v) ≡ true
  pub all_true : all test items ≡ true

-- the list keeps every bound of the model and makes every builtin true
abbrev pub SatisfiesModel : List ℕ → List ℤ → Type 0
SatisfiesModel model vs = Satisfies (variables model) (λ c. meaning (value vs) (builtin c)) (constraints model) vs

-- the list keeps every bound of the row system, the copied ones too, and satisfies every row and product
abbrev pub SatisfiesRows : List ℕ → List ℤ → Type 0
SatisfiesRows system xs = Satisfies (variables system) (satisfied (value xs)) (rows system) xs

-- a list of auxiliary values: one for each, and with the values it satisfies the row system
abbrev pub Completes : List ℕ → List ℕ → List ℤ → List ℤ → Type 0
Completes model system vs xs = (length xs ≡ length (auxiliaries model)) × SatisfiesRows system (vs ++ xs)

-- Demand 3, by those words: a list of whole numbers, of any length and size, satisfies the model exactly when some list of auxiliary values
-- makes both together satisfy the row system
abbrev pub SharedSolutions : List ℕ → List ℕ → Type 0
SharedSolutions model system = (vs : List ℤ) → SatisfiesModel model vs ↔ ((xs : List ℤ) × Completes model system vs xs)
