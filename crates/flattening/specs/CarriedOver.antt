-- The bytes of a FlatZinc text are read as statements, these say some FlatZinc, and the words keep the promise of it.
use Rattle.std.specs.Prelude.{◌≡◌, List, ℕ, Some}
use Rattle.flatstatements.specs.Statement.{Statement}
use Rattle.flatnames.specs.Step.{Resolved, resolved}
use Rattle.flattening.specs.Reads.{Reads}
use Rattle.flattening.specs.Promise.{Promise}

pub record CarriedOver (bytes ws : List ℕ) : Type 0 where
  pub statements : List Statement
  pub are_read : Reads bytes statements
  pub say : Resolved
  pub are_resolved : resolved statements ≡ Some say
  pub promise : Promise say.flatzinc ws
