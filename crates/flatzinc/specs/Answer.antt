-- What the flattener's functions answer: what a definition gives; memory that ran out; or a fault, and then the definition gives nothing.
use Rattle.std.specs.Prelude.{◌≡◌, Option, Some, None, Result, Ok, Err}
use Rattle.flatzinc.specs.declared.trouble.Trouble.{Trouble}
use Rattle.flatzinc.specs.declared.trouble.Trouble.TheVariants.{Memory, Fault}

abbrev pub Fails : {Y : Type 0} → Trouble → Option Y → Type 0
Fails Memory read = Unit {0}
Fails (Fault message) read = read ≡ None

abbrev pub Gives : {X Y : Type 0} → (X → Y) → Result X Trouble → Option Y → Type 0
Gives view (Ok x) read = read ≡ Some (view x)
Gives view (Err e) read = Fails e read
