-- 01, the program "rows": "prints one word a line, eight capital hexadecimal digits".
use Rattle.std.specs.Prelude.{cond, List, [], ◌∷◌, ℕ, ◌+◌, ◌-◌, ◌/◌, ◌%◌, ◌^◌, ltb}
use Prim.Native.Char.{code}

-- the ASCII code of a number below 16: 0 to 9, then A to F
unfoldable pub digit : ℕ → ℕ
digit n = cond (ltb n 10) (code "0" + n) (code "A" - 10 + n)

-- the digit at a place, counted from 0 at the lowest
unfoldable pub digit_at : ℕ → ℕ → ℕ
digit_at w place = digit (w / 16 ^ place % 16)

-- the highest first
unfoldable pub digits : ℕ → List ℕ
digits w = digit_at w 7 ∷ digit_at w 6 ∷ digit_at w 5 ∷ digit_at w 4 ∷ digit_at w 3 ∷ digit_at w 2 ∷ digit_at w 1 ∷ digit_at w 0 ∷ []
