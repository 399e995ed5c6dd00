-- Counting the variables of words from place to place.
use Rattle.std.proofs.Common.{◌≡◌, List, ℕ, ◌+◌, ◌≤◌, length, drop}
use Rattle.words.specs.Variables.{variables}

-- n variables stand before the place
pub record VariablesBefore (ws : List ℕ) (n at : ℕ) : Type 0 where
  pub few : n ≤ at
  pub number : n + length (variables (drop at ws)) ≡ length (variables ws)
