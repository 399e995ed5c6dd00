-- Room for what is laid next: the count of words, auxiliaries and rows stays a number of 64 bits. No writer asks for it: where it has none the counts wrap, and nothing is promised of them.
use Rattle.std.specs.Prelude.{ℕ, ◌+◌, ◌<◌}
use Rattle.laying.specs.Appends.{total}
use Rattle.laying.specs.declared.Laid.{Laid}

-- for n more words, auxiliaries and rows after those of s
abbrev pub Room : ℕ → Laid → Type 0
Room n s = total s + n < 18446744073709551616
