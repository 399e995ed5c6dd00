-- What each part of the call owes: the call's answer, and what the output holds afterwards.
use Rattle.std.specs.Prelude.{◌≡◌, List, ℕ, ℤ, length}
use Rattle.words.specs.Answer.{Answer}
use Rattle.bitanswers.specs.ReadValues.{bit_values, bit_valued}

pub record Answered (ws bs : List ℕ) (before after : List ℤ) (answer : Answer) : Type 0 where
  pub says : answer ≡ bit_values ws bs (length before)
  pub holds : after ≡ bit_valued ws bs before
