-- A number by its size and a flag for the hyphen.
use Rattle.std.specs.Prelude.{Bool, List, [], ◌∷◌, ◌++◌, ℕ}
use Prim.Native.Char.{code}
use Rattle.integers.specs.Choice.{◌if◌else◌}
use Rattle.decimals.specs.Decimal.{decimal}

unfoldable pub marked : Bool → ℕ → List ℕ
marked minus n = (code "-" ∷ [] if minus else []) ++ decimal n
