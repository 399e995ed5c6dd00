-- Numbers as text, in bytes of ASCII.
use Rattle.std.specs.Prelude.{List, [], ◌∷◌, ◌++◌, ℕ, zero, suc, ◌+◌, ◌/◌, ◌%◌, ltb, ℤ, pos, negsuc}
use Prim.Native.Char.{code}
use Rattle.integers.specs.Choice.{◌if◌else◌}

-- the digits of n, the last k of them at most
unfoldable pub last_digits : ℕ → ℕ → List ℕ
last_digits zero n = []
last_digits (suc k) n = let before = last_digits k (n / 10) in (before if ltb 9 n else []) ++ ((code "0" + n % 10) ∷ [])

-- all digits of n; there are at most n + 1
unfoldable pub decimal : ℕ → List ℕ
decimal n = last_digits (suc n) n

-- 02, wish 3: "a negative number with a hyphen"
unfoldable pub numeral : ℤ → List ℕ
numeral (pos n) = decimal n
numeral (negsuc n) = code "-" ∷ decimal (suc n)
