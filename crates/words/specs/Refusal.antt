-- How a refusal is written, and how a reader finds the first one.
use Rattle.std.specs.Prelude.{List, [], ◌∷◌, ℕ, zero, suc, ◌+◌, eqb, ltb, ℤ, length}
use Rattle.integers.specs.Choice.{◌if◌else◌}
use Rattle.words.specs.Variables.{variables}
use Rattle.words.specs.Fault as Fault
use Rattle.words.specs.Refusals.{Refusal}

infix 5 ◌at_place◌
abbrev pub ◌at_place◌ : ℕ → ℕ → Refusal
n at_place p = record { number = n; place = p }

abbrev pub accepted : Refusal
accepted = Fault.none at_place 0

-- the fault n at place p, or where n is 0 what comes after
abbrev pub fault_or : ℕ → ℕ → Refusal → Refusal
fault_or zero p after = after
fault_or (suc n) p after = suc n at_place p

-- the first refusal, or where there is none the second
infixr 2 ◌else_refuse◌
unfoldable pub ◌else_refuse◌ : Refusal → Refusal → Refusal
r else_refuse after = fault_or r.number r.place after

-- 01, Numbered faults: "the leftmost faulty word ends the reading, .. at one word by list order".
-- In a state, `fault` is the fault of a word before the words that follow it, and `next` the state after the word;
-- `ended` is the fault where the words end, whose place is their number.
module _ {S : Type 0} (fault : S → ℕ → List ℕ → ℕ) (next : S → ℕ → S) (ended : S → ℕ) where
  unfoldable pub first_fault : S → ℕ → List ℕ → Refusal
  first_fault s p [] = fault_or (ended s) p accepted
  first_fault s p (w ∷ ws) =
      let rest = first_fault (next s w) (p + 1) ws in
      fault_or (fault s w ws) p rest

-- 15: "The number of values is not that of the variables, in rows with the auxiliaries."
unfoldable pub count_fault : List ℕ → List ℤ → Refusal
count_fault ws vs = accepted if eqb (length vs) (length (variables ws)) else Fault.wrong_value_count at_place 0

-- 16: "The lent output is too short": it has `room` places and n are needed
unfoldable pub room_fault : ℕ → ℕ → Refusal
room_fault room n = Fault.output_too_short at_place 0 if ltb room n else accepted
