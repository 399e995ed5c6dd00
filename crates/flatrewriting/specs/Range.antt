-- A range's numbers where a list has room for them.
use Rattle.std.specs.Prelude.{◌≡◌, ℕ, ℤ, leb, List, Option, Some, None}
use Rattle.std.specs.Global.{Vec}
use Rattle.integers.specs.Choice.{◌if◌else◌}
use Rattle.integers.specs.Bounds.{width, values}
use Rattle.integers.specs.declared.Bounds.{Bounds}
use Rattle.words.specs.Limit as Limit

abbrev pub short_width : ℕ → Option ℕ
short_width n = Some n if leb n Limit.list_length else None

abbrev pub short_values : Bounds → Option (List ℤ)
short_values B = Some (values B) if leb (width B) Limit.list_length else None

-- a list of them, or none
abbrev pub NumbersOf : Bounds → Option (Vec ℤ) → Type 0
NumbersOf B None = short_values B ≡ None
NumbersOf B (Some v) = short_values B ≡ Some v.items
