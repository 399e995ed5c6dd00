-- Bytes are read as statements, one after another, to their end.
use Rattle.std.specs.Prelude.{◌≡◌, List, [], ◌∷◌, ℕ, Some, None}
use Rattle.flattokens.specs.Token.{Token}
use Rattle.flattokens.specs.Reading.{next_statement}
use Rattle.flatstatements.specs.Statement.{Statement}
use Rattle.flatstatements.specs.Reading.{statement_read}

pub data Reads : List ℕ → List Statement → Type 0 where
  -- nothing but gaps is left
  ending : {bytes : List ℕ} → next_statement bytes ≡ Some None → Reads bytes []
  -- the tokens up to a semicolon are a statement, and what stands behind it is read on
  statement : {bytes rest : List ℕ} {ts : List Token} {s : Statement} {ss : List Statement} →
      next_statement bytes ≡ Some (Some (ts, rest)) → statement_read ts ≡ Some s → Reads rest ss → Reads bytes (s ∷ ss)
