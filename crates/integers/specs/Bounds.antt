-- The bounds of a variable, and the values that keep them.
use Rattle.std.specs.Prelude.{Bool, ◌&&◌, List, ℕ, ℤ, pos, get_or}
use Rattle.std.specs.Int.Signed.{le_z}
use Rattle.integers.specs.Number.{◌⊕◌, ◌⊖◌, count, +0, +1}
use Rattle.integers.specs.Lists.{list_of}
use Rattle.integers.specs.declared.Bounds.{Bounds}

-- lower bound l, upper bound u
infix 5 ◌to◌
abbrev pub ◌to◌ : ℤ → ℤ → Bounds
l to u = record { lower = l; upper = u }

-- of a Boolean variable; 01, Words: "bounds 0 and 1"
abbrev pub bit : Bounds
bit = +0 to +1

-- 01, The words of demand 3: "not below the lower and not above the upper"
unfoldable pub within : Bounds → ℤ → Bool
within B x = le_z B.lower x && le_z x B.upper

-- how many values the bounds leave, and these values, rising
unfoldable pub width : Bounds → ℕ
width B = count (B.upper ⊖ B.lower ⊕ +1)

unfoldable pub values : Bounds → List ℤ
values B = list_of (λ k. B.lower ⊕ pos k) (width B)

-- the bounds of variable v in a list, 0 and 0 past its end
unfoldable pub bounds_in : List Bounds → ℕ → Bounds
bounds_in Bs v = get_or Bs v (+0 to +0)
