-- What is said of calls that are made: they place what a definition gives.
use Rattle.std.specs.Prelude.{◌≡◌, List, [], ◌∷◌, ◌++◌, Option, Some, Result, Ok, Err, IsSome, option_and_then}
use Rattle.std.specs.Global.{Vec}
use Rattle.flatzinc.specs.declared.trouble.Trouble.{Trouble}
use Rattle.flatzinc.specs.declared.Call.{Call}
use Rattle.flatzinc.specs.Answer.{Fails}
use Rattle.flatzinc.specs.Calls.{placed_all}
use Rattle.flatzinc.specs.Items.{Placed}

-- a list of calls that place these builtins, or why there is none
abbrev pub Makes : Result (Vec Call) Trouble → Option (List Placed) → Type 0
Makes (Ok cs) o = (placed_all cs.items ≡ o) × IsSome o
Makes (Err e) o = Fails e o

-- what was placed, and more
abbrev pub and_more : Option (List Placed) → List Placed → Option (List Placed)
and_more o qs = option_and_then (λ ps. Some (ps ++ qs)) o

abbrev pub and_one : Option (List Placed) → Option Placed → Option (List Placed)
and_one o p = option_and_then (λ ps. option_and_then (λ q. Some (ps ++ q ∷ [])) p) o

abbrev pub and_all : Option (List Placed) → Option (List Placed) → Option (List Placed)
and_all o p = option_and_then (λ ps. option_and_then (λ qs. Some (ps ++ qs)) p) o
