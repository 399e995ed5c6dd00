-- The number that a token spells; 02, wish 8: "Numbers are decimal, a hyphen directly before a negative one, leading zeros and -0 allowed."
use Rattle.std.specs.Prelude.{List, [], ◌∷◌, ℕ, ◌+◌, ◌-◌, ◌*◌, eqb, ℤ, pos, neg_ℤ, drop}
use Prim.Native.Char.{code}
use Rattle.integers.specs.Choice.{◌if◌else◌}
use Rattle.tokens.specs.Byte.{front}

-- the number that the digits of n and then these spell
unfoldable pub digits_from : ℕ → List ℕ → ℕ
digits_from n [] = n
digits_from n (b ∷ bs) = digits_from (n * 10 + (b - code "0")) bs

-- the number that digits spell, perhaps after a hyphen
unfoldable pub value_of : List ℕ → ℤ
value_of bs = neg_ℤ (pos (digits_from 0 (drop 1 bs))) if eqb (front bs) (code "-") else pos (digits_from 0 bs)
