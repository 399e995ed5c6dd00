-- The fault of a word in the range of 02: what the contracts of the reader cite.
use Rattle.std.specs.Prelude.{List, ℕ}
use Rattle.words.specs.Limit as Limit
use Rattle.models.specs.Reading.{State, fault_start_in, fault_upper_in, fault_count_in, fault_due_in, fault_in}
use Rattle.models.specs.declared.Due.{Due}

abbrev pub fault_start : ℕ → ℕ → ℕ → ℕ
fault_start = fault_start_in Limit.range

abbrev pub fault_upper : ℕ → ℕ → ℕ
fault_upper = fault_upper_in Limit.range

abbrev pub fault_count : ℕ → ℕ → ℕ
fault_count = fault_count_in Limit.range

abbrev pub fault_due : Due → ℕ → ℕ → ℕ → ℕ → ℕ
fault_due = fault_due_in Limit.range

abbrev pub fault : State → ℕ → List ℕ → ℕ
fault = fault_in Limit.range
