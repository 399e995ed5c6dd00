-- The slot of a name. That a builtin is found rests on none of these numbers: only on each builtin's name having a slot of its own.
use Rattle.std.specs.Prelude.{List, ℕ, ◌+◌, ◌*◌, ◌%◌, length, get_or}

unfoldable pub slot : List ℕ → ℕ
slot x = (96 * (length x % 4) + 125 * get_or x 4 0 + 2 * get_or x 5 0 + 46 * get_or x 6 0 + 8 * get_or x 8 0 + 82 * get_or x 11 0) % 128
