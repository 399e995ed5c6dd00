-- Bits as bytes: each is 0 or 1, and 0 past the last one.
use Rattle.std.specs.Prelude.{List, ℕ, ◌<◌, get_or}

abbrev pub FineBits : List ℕ → Type 0
FineBits bs = (i : ℕ) → get_or bs i 0 < 2
