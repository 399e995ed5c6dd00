-- Reading on from a place. `onward`, `stopped`, `resumed`, `StepsTo` and `Placed` have the same names in modelitems/specs/Onward, over a model's words.
use Rattle.std.specs.Prelude.{◌≡◌, Bool, true, false, ◌||◌, List, ℕ, ◌<◌, ◌≤◌, ltb, eqb, length, drop}
use Rattle.integers.specs.Choice.{◌if◌else◌}
use Rattle.words.specs.Fault as Fault
use Rattle.words.specs.Kind as Kind
use Rattle.words.specs.Limit as Limit
use Rattle.words.specs.Word.{kind, word_at}
use Rattle.words.specs.Refusal.{◌at_place◌, accepted, first_fault}
use Rattle.words.specs.Refusals.{Refusal}
use Rattle.words.specs.Check.{Step}
use Rattle.rowsystems.specs.Reading.{fault, after, ended}
use Rattle.rowsystems.specs.declared.Due.{Due}
use Rattle.rowsystems.specs.declared.Due.TheVariants.{Source, SourceUpper, Item, AuxiliaryUpper, Terms, Coefficient, Result, FirstFactor, SecondFactor, Ended}

-- what reading the words from place `at` on finds, with so many variables before it
unfoldable pub onward : Due → ℕ → ℕ → List ℕ → Refusal
onward due n at ws = first_fault fault after ended (record { due = due; variables = n }) at (drop at ws)

-- what a reading that stops with fault f at place p finds; f is the fault that a word 0 has there where the words have ended
unfoldable pub stopped : List ℕ → ℕ → ℕ → Refusal
stopped ws f p =
    f at_place p if ltb p (length ws)
    else accepted if eqb f Fault.word_after_end
    else Fault.words_end at_place p

-- what a reading finds after a step
unfoldable pub resumed : Due → ℕ → List ℕ → Step → Refusal
resumed due n ws r = onward due n r.at ws if eqb r.number Fault.none else stopped ws r.number r.at

-- the kinds that start a variable, a row or a product
unfoldable pub starts_kind : ℕ → Bool
starts_kind k = ((eqb k Kind.lower || eqb k Kind.auxiliary_lower) || eqb k Kind.boolean) || ((eqb k Kind.at_most || eqb k Kind.equal) || eqb k Kind.product)

-- no word from a place up to another starts one
abbrev pub Plain : List ℕ → ℕ → ℕ → Type 0
Plain ws a b = (j : ℕ) → a ≤ j → j < b → starts_kind (kind (word_at ws j)) ≡ false

-- 0 where a head is due, 1 inside an item, 2 after the end word
abbrev pub stage : Due → ℕ
stage Source = 0
stage (SourceUpper lower) = 1
stage Item = 0
stage (AuxiliaryUpper lower) = 1
stage (Terms left) = 1
stage (Coefficient left) = 1
stage Result = 1
stage FirstFactor = 1
stage SecondFactor = 1
stage Ended = 2

-- whether the end word was read
abbrev pub is_ended : Due → Bool
is_ended due = eqb (stage due) 2

-- the step r leads from what is due at a place to what is due at a later one, or to the first fault
pub record StepsTo (ws : List ℕ) (n : ℕ) (from : Due) (at : ℕ) (to : Due) (r : Step) : Type 0 where
  pub reads : onward from n at ws ≡ resumed to n ws r
  pub on : at ≤ r.at
  pub inside : r.at ≤ length ws
  pub plain : Plain ws at r.at
  pub last : r.number ≡ Fault.word_after_end → is_ended from ≡ true

-- a place of words that are not too many; no type carries it, as it is of two values of which one moves on at each step
pub record Placed (ws : List ℕ) (at : ℕ) : Type 0 where
  pub within : at ≤ length ws
  pub few : length ws ≤ Limit.row_words
