-- What judge-model answers before it looks at constraints.
use Rattle.std.specs.Prelude.{List, ℕ, ℤ}
use Rattle.integers.specs.Terms.{value}
use Rattle.words.specs.Answer.{Answer, ◌else_answer◌}
use Rattle.words.specs.Judge.{first_out_of_bounds}
use Rattle.words.specs.Refusal.{◌else_refuse◌, count_fault}
use Rattle.words.specs.Variables.{variables}
use Rattle.words.specs.Refusals.{Refusal}

-- the refusal, else fault 15, else the first variable out of bounds, else what comes after
abbrev pub judged_then : Refusal → List ℕ → List ℤ → Answer → Answer
judged_then read ws vs after = (read else_refuse count_fault ws vs) else_answer first_out_of_bounds (value vs) 0 (variables ws) after
