-- The items of a row system: what is due at a head word, and after it; which variables a product has.
use Rattle.std.specs.Prelude.{Bool, true, false, List, ℕ, ◌+◌, ◌<◌}
use Rattle.integers.specs.Choice.{◌if◌else◌}
use Rattle.rowsystems.specs.RowSystem.{variable_at}
use Rattle.rowsystems.specs.declared.Due.{Due}
use Rattle.rowsystems.specs.declared.Due.TheVariants as due
use Rattle.rowreading.specs.declared.items.Item.{Item}
use Rattle.rowreading.specs.declared.items.Item.TheVariants.{Variable, Boolean, Auxiliary, Row, Product, End}

-- what is due at a head, where sources may still stand and where not
unfoldable pub start_due : Bool → Due
start_due sources = due.Source if sources else due.Item

-- what is due in an item with so many terms left
unfoldable pub due_with : Item → ℕ → Due
due_with (Variable lower) left = due.SourceUpper lower
due_with Boolean left = due.Source
due_with (Auxiliary lower) left = due.AuxiliaryUpper lower
due_with (Row terms) left = due.Terms left
due_with Product left = due.Result
due_with End left = due.Ended

-- how many terms there are
unfoldable pub item_terms : Item → ℕ
item_terms (Variable lower) = 0
item_terms Boolean = 0
item_terms (Auxiliary lower) = 0
item_terms (Row terms) = terms
item_terms Product = 0
item_terms End = 0

-- what is due after the head
unfoldable pub due_after : Item → Due
due_after item = due_with item (item_terms item)

-- whether a source variable may follow
unfoldable pub more_sources : Item → Bool
more_sources (Variable lower) = true
more_sources Boolean = true
more_sources (Auxiliary lower) = false
more_sources (Row terms) = false
more_sources Product = false
more_sources End = false

-- the result and the two factors of a product, from a place on, are among n variables
abbrev pub Declared : List ℕ → ℕ → ℕ → Type 0
Declared ws n at = (variable_at ws at < n) × (variable_at ws (at + 1) < n) × (variable_at ws (at + 2) < n)
