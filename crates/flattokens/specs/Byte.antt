-- The bytes of a FlatZinc text by their use; digits, letters and what goes on in a name or a comment are those of call texts.
use Rattle.std.specs.Prelude.{Bool, not, ◌&&◌, ◌||◌, List, ℕ, eqb}
use Prim.Native.Char.{code}
use Rattle.integers.specs.Lists.{any}
use Rattle.words.specs.Bytes.{bytes}
use Rattle.tokens.specs.Byte.{is_digit, in_name, front}

-- blanks, tabs, carriage returns, line feeds, and what begins a comment
unfoldable pub is_gap : ℕ → Bool
is_gap b = any (eqb b) (bytes " \t\r\n%")

-- the tokens of one byte
unfoldable pub is_sign : ℕ → Bool
is_sign b = any (eqb b) (bytes "()[]{},:=")

-- a letter or "_"
unfoldable pub begins_name : ℕ → Bool
begins_name b = in_name b && not (is_digit b)

unfoldable pub begins_digits : List ℕ → Bool
begins_digits bs = is_digit (front bs)

-- a digit, or a hyphen before one
unfoldable pub begins_number : ℕ → List ℕ → Bool
begins_number b bs = is_digit b || (eqb b (code "-") && begins_digits bs)
