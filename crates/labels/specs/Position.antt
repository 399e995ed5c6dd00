-- The line and the column of a byte of a text, both counted from 1: a line feed ends a line.
use Rattle.std.specs.Prelude.{List, [], ◌∷◌, ℕ, ◌+◌, eqb, take}
use Prim.Native.Char.{code}
use Rattle.integers.specs.Choice.{◌if◌else◌}
use Rattle.labels.specs.declared.position.Position.{Position}

abbrev pub start : Position
start = record { line = 1; column = 1 }

-- the position after a byte
abbrev pub after : Position → ℕ → Position
after p b = record { line = p.line + 1; column = 1 } if eqb b (code "\n") else record { line = p.line; column = p.column + 1 }

-- after the bytes before it
abbrev pub after_all : Position → List ℕ → Position
after_all p [] = p
after_all p (b ∷ bs) = after_all (after p b) bs

abbrev pub position_of : List ℕ → ℕ → Position
position_of text byte = after_all start (take byte text)
