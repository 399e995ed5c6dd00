-- Reading on from a place.
use Rattle.std.specs.Prelude.{◌≡◌, List, Bool, ℕ, ◌+◌, ◌≤◌, ltb, eqb, length, drop}
use Rattle.integers.specs.Choice.{◌if◌else◌}
use Rattle.words.specs.Fault as Fault
use Rattle.words.specs.Limit as Limit
use Rattle.words.specs.Check.{fault_number_in, Step}
use Rattle.words.specs.Refusal.{◌at_place◌, first_fault}
use Rattle.words.specs.Word.{word_at}
use Rattle.words.specs.Variables.{variables}
use Rattle.words.specs.Refusals.{Refusal}
use Rattle.models.specs.Model.{constraints_from}
use Rattle.models.specs.Shape as Shape
use Rattle.models.specs.Shape.{argument}
use Rattle.models.specs.Reading.{after, ended, after_argument}
use Rattle.models.specs.InRange.{fault}
use Rattle.models.specs.declared.Due.{Due}
use Rattle.models.specs.declared.Due.TheVariants.{Arguments}

-- what reading the words from place `at` on finds, with variables of the types ts and c constraints before it
unfoldable pub onward : Due → List ℕ → ℕ → ℕ → List ℕ → Refusal
onward due ts c at ws = first_fault fault after ended (record { due = due; types = ts; constraints = c }) at (drop at ws)

-- what a reading that stops with fault f at place p, where a word is due, finds; f is the fault that a word 0 has there where the words have ended
unfoldable pub stopped : List ℕ → ℕ → ℕ → Refusal
stopped ws f p = f at_place p if ltb p (length ws) else Fault.words_end at_place p

-- what a reading finds after a step
unfoldable pub resumed : Due → List ℕ → ℕ → List ℕ → Step → Refusal
resumed due ts c ws r = onward due ts c r.at ws if eqb r.number Fault.none else stopped ws r.number r.at

-- the words from one place to a later one start neither a variable nor a constraint
pub record Skipped (ws : List ℕ) (at to : ℕ) : Type 0 where
  pub same_variables : variables (drop at ws) ≡ variables (drop to ws)
  pub same_constraints : constraints_from at (drop at ws) ≡ constraints_from to (drop to ws)

-- the step r leads from what is due at a place to what is due at a later one, or to the first fault
pub record StepsTo (ws ts : List ℕ) (c : ℕ) (from : Due) (at : ℕ) (to : Due) (r : Step) : Type 0 where
  pub reads : onward from ts c at ws ≡ resumed to ts c ws r
  pub on : at ≤ r.at
  pub inside : r.at ≤ length ws
  pub skipped : Skipped ws at r.at

-- a place of words that are not too many; no type carries it, as it is of two values of which one moves on at each step
pub record Placed (ws : List ℕ) (at : ℕ) : Type 0 where
  pub within : at ≤ length ws
  pub few : length ws ≤ Limit.model_words

-- a word that is a number, without a fault
unfoldable pub is_number : ℕ → Bool
is_number w = eqb (fault_number_in Limit.range w) Fault.none

-- what is due at the k-th argument of a code
abbrev pub arguments_from : ℕ → ℕ → Due
arguments_from code k = Arguments 0 0 0 code k

-- what is due at a head, where a constraint or the end may stand: code 0 has no argument
abbrev pub head_due : Due
head_due = arguments_from 0 0

-- r is past the numbers of a list but for the last `left` of them
abbrev pub NumbersRead : List ℕ → ℕ → ℕ → ℕ → Step → Type 0
NumbersRead ws n at left r = (ts : List ℕ) (c l type code k : ℕ) → StepsTo ws ts c (Arguments n l type code k) at (Arguments left l type code k) r

-- r is past the variables of a list, of a type, but for the last `left` of them
abbrev pub VariablesRead : List ℕ → List ℕ → ℕ → ℕ → ℕ → ℕ → Step → Type 0
VariablesRead ws ts type n at left r = (c code k : ℕ) → StepsTo ws ts c (Arguments 0 n type code k) at (Arguments 0 left type code k) r

-- r is past the length word of a list
abbrev pub LengthRead : List ℕ → ℕ → Step → Type 0
LengthRead ws at r = (ts : List ℕ) (c arg code k : ℕ) → arg ≡ argument code k → Shape.numbers ≤ arg → StepsTo ws ts c (arguments_from code k) at (after_argument arg code (k + 1) (word_at ws at)) r

-- r is past an argument
abbrev pub ArgumentRead : List ℕ → List ℕ → ℕ → ℕ → Step → Type 0
ArgumentRead ws ts arg at r = (c code k : ℕ) → arg ≡ argument code k → StepsTo ws ts c (arguments_from code k) at (arguments_from code (k + 1)) r

-- r is past all arguments of a code
abbrev pub ArgumentsRead : List ℕ → List ℕ → ℕ → ℕ → Step → Type 0
ArgumentsRead ws ts code at r = (c : ℕ) → StepsTo ws ts c (arguments_from code 0) at head_due r
