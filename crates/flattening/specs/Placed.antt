-- Calls that place what a definition gives.
use Rattle.std.specs.Prelude.{◌≡◌, List, Option, IsSome}
use Rattle.flatzinc.specs.declared.Call.{Call}
use Rattle.flatzinc.specs.Items.{Placed}
use Rattle.flatzinc.specs.Calls.{placed_all}

abbrev pub PlacesAll : List Call → Option (List Placed) → Type 0
PlacesAll cs o = (placed_all cs ≡ o) × IsSome o
