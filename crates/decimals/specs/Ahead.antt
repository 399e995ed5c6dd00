-- What stands ahead of a number's last digit, from the right: the other digits, then the hyphen, then blanks.
use Rattle.std.specs.Prelude.{Bool, false, List, [], ◌∷◌, ◌++◌, ℕ, zero, suc, ◌+◌, ◌/◌, ◌%◌, ltb}
use Prim.Native.Char.{code}
use Rattle.integers.specs.Choice.{◌if◌else◌}

-- the byte in a column, with the digits of `rest` and perhaps a hyphen still to come; whether the hyphen is still to come after it
unfoldable pub byte_of : Bool → ℕ → ℕ
byte_of minus rest = code "0" + rest % 10 if ltb 0 rest else code "-" if minus else code " "

unfoldable pub minus_after : Bool → ℕ → Bool
minus_after minus rest = minus if ltb 0 rest else false

unfoldable pub ahead : ℕ → Bool → ℕ → List ℕ
ahead zero minus rest = []
ahead (suc columns) minus rest = ahead columns (minus_after minus rest) (rest / 10) ++ (byte_of minus rest ∷ [])
