-- The bits of a number by weights, taken from the last weight to the first, each where it is not above what is left.
use Rattle.std.specs.Prelude.{List, [], ◌∷◌, ℕ, ◌-◌, leb}
use Rattle.integers.specs.Choice.{◌if◌else◌}

-- what is left of x then
unfoldable pub left_of : List ℕ → ℕ → ℕ
left_of [] x = x
left_of (w ∷ ws) x = let r = left_of ws x in r - w if leb w r else r

-- a 1 for each weight that is taken, a 0 for each that is not
unfoldable pub chosen : List ℕ → ℕ → List ℕ
chosen [] x = []
chosen (w ∷ ws) x = (1 if leb w (left_of ws x) else 0) ∷ chosen ws x
