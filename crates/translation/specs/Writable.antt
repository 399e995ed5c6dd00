-- What writing the row system of a model wants.
use Rattle.std.specs.Prelude.{ℕ, ◌≤◌}
use Rattle.sharing.specs.SharedSolutions.{Passes}
use Rattle.checking.specs.ReadModel.{Listed}
use Rattle.checking.specs.declared.read.ReadModel.{ReadModel}

-- what writing n words of the row system to a list of so many wants: a model that passes the check, its bounds and its sums
abbrev pub Writable : ReadModel → ℕ → ℕ → Type 0
Writable r n room = Listed r × Passes r.ws.now × (n ≤ room)
