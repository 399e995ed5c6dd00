-- The words that start a variable, and the bounds of the variable that a word starts.
use Rattle.std.specs.Prelude.{Bool, ◌||◌, ℕ, eqb}
use Rattle.integers.specs.Choice.{◌if◌else◌}
use Rattle.integers.specs.Bounds.{◌to◌, bit}
use Rattle.integers.specs.declared.Bounds.{Bounds}
use Rattle.words.specs.Kind as Kind
use Rattle.words.specs.Word.{kind, signed}
use Rattle.words.specs.Variables.{starts_pair}

unfoldable pub starts : ℕ → Bool
starts w = starts_pair w || eqb (kind w) Kind.boolean

-- by the word after it, which has the upper bound of a pair
unfoldable pub pair_bounds : ℕ → ℕ → Bounds
pair_bounds w next = (signed w to signed next) if starts_pair w else bit
