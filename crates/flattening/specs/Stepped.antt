-- The state before and after the statement at the front of bytes, and the bytes behind it.
use Rattle.std.specs.Prelude.{◌≡◌, List, ℕ, ◌<◌, length, Option, Some, None}
use Rattle.flattokens.specs.Token.{Token}
use Rattle.flattokens.specs.Reading.{next_statement}
use Rattle.flatstatements.specs.Statement.{Statement}
use Rattle.flatstatements.specs.Reading.{statement_read}
use Rattle.flatnames.specs.Step.{State, step}

-- the tokens up to a semicolon are a statement that can stand there
pub record Statement_at (bytes : List ℕ) (S T : State) (rest : List ℕ) : Type 0 where
  pub tokens : List Token
  pub is : Statement
  pub found : next_statement bytes ≡ Some (Some (tokens, rest))
  pub read : statement_read tokens ≡ Some is
  pub stepped : step S is ≡ Some T
  pub less : length rest < length bytes

abbrev pub Stepped : List ℕ → State → State → Option (List ℕ) → Type 0
Stepped bytes S T None = (next_statement bytes ≡ Some None) × (T ≡ S)
Stepped bytes S T (Some rest) = Statement_at bytes S T rest
