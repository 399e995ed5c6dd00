-- What each part of the call owes: the call's answer, and what the output holds afterwards.
use Rattle.std.specs.Prelude.{◌≡◌, List, ℕ, ℤ, length}
use Rattle.words.specs.Answer.{Answer}
use Rattle.bitanswers.specs.BitsAnswer.{value_bits_answer, value_bits_written}

pub record Answered (ws : List ℕ) (vs : List ℤ) (before after : List ℕ) (answer : Answer) : Type 0 where
  pub says : answer ≡ value_bits_answer ws vs (length before)
  pub holds : after ≡ value_bits_written ws vs before
