-- What reading keeps of a model.
use Rattle.std.specs.Prelude.{◌≡◌, List, map, ℕ, ◌+◌, ◌≤◌, length, drop, take, Result, Ok, Err}
use Rattle.words.specs.Fault as Fault
use Rattle.words.specs.Faults.{fault_number}
use Rattle.words.specs.Limit as Limit
use Rattle.words.specs.Refusal.{◌at_place◌, accepted}
use Rattle.words.specs.declared.fault.Refusal as error
use Rattle.words.specs.Variables.{variables}
use Rattle.models.specs.Model.{headed, constraints_from, constraints, source_words}
use Rattle.models.specs.Reading.{read_model}
use Rattle.models.specs.declared.Due.{Due}
use Rattle.modelitems.specs.Onward.{onward, stopped, Placed}
use Rattle.modelreading.specs.declared.Model.{Model}

-- what reading a model answers, by numbers: a fault and its place; where the number is 0, how many variables the model has, how many words they take,
-- and how many constraints
pub record Read : Type 0 where
  pub number : ℕ
  pub place : ℕ
  pub variables : ℕ
  pub sources : ℕ
  pub constraints : ℕ

-- of an accepted model
abbrev pub model_read : Model → Read
model_read m = record { number = Fault.none; place = 0; variables = m.variables; sources = m.sources; constraints = m.constraints }

abbrev pub read_of : Result Model error.Refusal → Read
read_of (Ok m) = model_read m
read_of (Err r) = record { number = fault_number r.fault; place = r.place; variables = 0; sources = 0; constraints = 0 }

-- a reading that stops with this refusal, where a word is due
abbrev pub Stops : List ℕ → error.Refusal → Type 0
Stops ws r = stopped ws (fault_number r.fault) r.place ≡ read_model ws

-- what is kept of v variables that take the words up to a place, where something is due: their types, and what the words after it hold
pub record VariablesSeen (due : Due) (ws types : List ℕ) (v at : ℕ) : Type 0 where
  pub few : v ≤ Limit.variables
  pub placed : Placed ws at
  pub rest : onward due (take v types) 0 at ws ≡ read_model ws
  pub declares : v + length (variables (drop at ws)) ≡ length (variables ws)
  pub front : at + length (source_words (drop at ws)) ≡ length (source_words ws)
  pub same : constraints_from at (drop at ws) ≡ constraints ws

-- the first n of hs are the places of the constraints' heads
pub record Heads (ws hs : List ℕ) (n : ℕ) : Type 0 where
  pub room : n ≤ Limit.constraints
  pub counted : n ≡ length (constraints ws)
  pub places : map (headed ws) (take n hs) ≡ constraints ws

-- what is kept of an accepted model: how many variables, how many words they take, how many constraints, and where their heads stand
pub record Seen (ws hs : List ℕ) (r : Read) : Type 0 where
  pub accepts : read_model ws ≡ accepted
  pub variables_counted : r.variables ≡ length (variables ws)
  pub sources_counted : r.sources ≡ length (source_words ws)
  pub heads : Heads ws hs r.constraints

-- what reading answers
pub record Kept (ws : List ℕ) (hs : List ℕ) (r : Read) : Type 0 where
  pub refusal : r.number at_place r.place ≡ read_model ws
  pub seen : r.number ≡ Fault.none → Seen ws hs r
