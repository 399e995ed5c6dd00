-- What fill's output takes, and what writing numbers to it leaves.
use Rattle.std.specs.Prelude.{◌≡◌, true, List, ℕ, ◌+◌, ◌<◌, ℤ, get_or}
use Rattle.integers.specs.Number.{+0}
use Rattle.words.specs.Word.{in_range}
use Rattle.words.specs.LaidAt.{LaidAt}
use Rattle.picking.specs.declared.Output.{Output}

-- n places more do not wrap
abbrev pub Room : ℕ → Output → Type 0
Room n o = o.at + n < 4398046511104

-- every number is in the range, and so fits 32 bits
abbrev pub Ranged : List ℤ → Type 0
Ranged ps = (k : ℕ) → in_range (get_or ps k +0) ≡ true

-- what writing the numbers of a constraint wants: a place that does not wrap, and numbers of the range
pub record Pickable (o : Output) (ps : List ℤ) : Type 0 where
  pub place : o.at < 1099511627776
  pub ranged : Ranged ps

-- the numbers went over the list from the place on, as far as they fit; the place stands after them, and the list is the same one
pub record Puts (before : Output) (ps : List ℤ) (after : Output) : Type 0 where
  pub laid : LaidAt before.list.now before.at ps after.list.now after.at
  pub same_list : after.list.ghost_name ≡ before.list.ghost_name
