-- What each part of the call owes: the call's answer, and what the output holds afterwards. And the parts of a variable's distance over its bits.
use Rattle.std.specs.Prelude.{◌≡◌, List, ℕ, ◌<◌, ℤ, pos, length}
use Rattle.integers.specs.Number.{neg, +0, +1}
use Rattle.integers.specs.Bounds.{bounds_in}
use Rattle.words.specs.Variables.{variables}
use Rattle.words.specs.Answer.{Answer}
use Rattle.bitforms.specs.BitForm.{encoding}
use Rattle.bittables.specs.BitTables.{firsts, encoding_by}
use Rattle.bittables.specs.declared.table.BitSystem.{BitSystem}
use Rattle.bestforms.specs.declared.Direction.{Direction}
use Rattle.bestforms.specs.declared.Direction.TheVariants.{Least, Greatest}
use Rattle.bestforms.specs.BestAnswer.{best_bits, best_bitted}

pub record AnsweredBest (ws : List ℕ) (v : ℕ) (d : Direction) (before after : List ℕ) (answer : Answer) : Type 0 where
  pub says : answer ≡ best_bits ws v d (length before)
  pub holds : after ≡ best_bitted ws v d before

-- what a weight counts, and what is added to the constant, of a width
abbrev pub sign : Direction → ℤ
sign Least = +1
sign Greatest = neg +1

abbrev pub start : Direction → ℕ → ℤ
start Least w = +0
start Greatest w = pos w

-- a variable of the row system, and its bounds and bits as the lists have them
pub record VariableListed (s : BitSystem) (v : ℕ) : Type 0 where
  pub named : v < length (variables s.words.now)
  pub bounds_are : bounds_in s.table.domains.now v ≡ bounds_in (variables s.words.now) v
  pub encoding_is : encoding_by s.table.domains.now (firsts s.table.bits.now) v ≡ encoding s.words.now v
