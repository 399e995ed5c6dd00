-- An entry: the place of a name in a text, what it keeps of the name's hash, and the name's length.
use Rattle.std.specs.Prelude.{List, ℕ, ◌+◌, ◌/◌, ◌%◌}
use Rattle.tokens.specs.Unread.{bytes_between}

unfoldable pub place_in : ℕ → ℕ
place_in e = e / 16777216

unfoldable pub tag_in : ℕ → ℕ
tag_in e = e / 64 % 262144

unfoldable pub length_in : ℕ → ℕ
length_in e = e % 64

-- its name
abbrev pub named : List ℕ → ℕ → List ℕ
named bs e = bytes_between bs (place_in e) (place_in e + length_in e)
