-- Text written as text.
use Rattle.std.specs.Prelude.{List, ℕ}
use Prim.Native.Char.{code}
use Prim.Native.String.{String, len, char_at}
use Rattle.integers.specs.Lists.{list_of}

-- the bytes of an ASCII text
unfoldable pub bytes : String → List ℕ
bytes s = list_of (λ i. code (char_at s i)) (len s)
