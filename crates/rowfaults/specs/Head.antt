-- The fault of the word that starts an item.
use Rattle.std.specs.Prelude.{Bool, ℕ}
use Rattle.integers.specs.Choice.{◌if◌else◌}
use Rattle.rowsystems.specs.Reading.{fault_item, fault_source}

-- where sources may still stand, and where not
unfoldable pub fault_at_head : Bool → ℕ → ℕ → ℕ
fault_at_head sources n w = fault_source n w if sources else fault_item n w
