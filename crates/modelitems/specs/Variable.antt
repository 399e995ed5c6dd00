-- Reading one variable.
use Rattle.std.specs.Prelude.{◌≡◌, List, [], ◌∷◌, ◌++◌, ℕ, ◌+◌, ◌<◌, ◌≤◌, eqb, length, get_or, drop}
use Rattle.integers.specs.Choice.{◌if◌else◌}
use Rattle.words.specs.Fault as Fault
use Rattle.words.specs.Limit as Limit
use Rattle.words.specs.Variables.{variables}
use Rattle.words.specs.Check.{Step}
use Rattle.models.specs.Model.{constraints_from, source_words}
use Rattle.models.specs.Reading.{declared}
use Rattle.models.specs.declared.Due.TheVariants.{Start}
use Rattle.modelitems.specs.Onward.{onward, stopped}

-- a variable's words stand from one place to another
pub record VariablePassed (ws : List ℕ) (at to : ℕ) : Type 0 where
  pub one_variable : length (variables (drop at ws)) ≡ length (variables (drop to ws)) + 1
  pub more_sources : at + length (source_words (drop at ws)) ≡ to + length (source_words (drop to ws))
  pub same_constraints : constraints_from at (drop at ws) ≡ constraints_from to (drop to ws)

-- the step r leads past a variable of the type d, after v variables, or to the first fault
pub record Declares (ws : List ℕ) (v at d : ℕ) (r : Step) : Type 0 where
  pub reads : (ts : List ℕ) → length ts ≡ v → onward Start ts 0 at ws ≡ (onward Start (ts ++ (d ∷ [])) 0 r.at ws if eqb r.number Fault.none else stopped ws r.number r.at)
  pub room : r.number ≡ Fault.none → v < Limit.variables
  pub on : r.number ≡ Fault.none → at < r.at
  pub inside : r.number ≡ Fault.none → r.at ≤ length ws
  pub passed : r.number ≡ Fault.none → VariablePassed ws at r.at

-- r leads past the variable that the word w at a place starts, of the type that w declares, after v variables
abbrev pub VariableRead : List ℕ → ℕ → ℕ → ℕ → Step → Type 0
VariableRead ws v at w r = (d : ℕ) → d ≡ get_or (declared w) 0 0 → (d ≡ 0 → ⊥) → Declares ws v at d r
