-- The line of bit i: from bit i on the entries of rows over bits.
use Rattle.std.specs.Prelude.{◌≡◌, true, List, ℕ, ◌<◌, ◌≤◌, ℤ, length, get_or}
use Rattle.integers.specs.Number.{+0}
use Rattle.integers.specs.Lists.{all}
use Rattle.bitforms.specs.BitRow.{BitRow}
use Rattle.bitforms.specs.Matrix.{entry_of}
use Rattle.bitforms.specs.FormAnswer.{row_fits}
use Rattle.bitforms.specs.Taken.{taken_entry}
use Rattle.bittables.specs.Systems.{rows_of_system}
use Rattle.bittables.specs.declared.table.BitSystem.{BitSystem}
use Rattle.bittaking.specs.declared.Taken.{Taken}

-- a list that holds it
abbrev pub LineOf : List BitRow → ℕ → List ℤ → Type 0
LineOf rs i line = (j : ℕ) → i ≤ j → j < length line → get_or line j +0 ≡ entry_of rs i j

-- all rows over n bits fit
abbrev pub Fitting : BitSystem → ℕ → Type 0
Fitting s n = all (row_fits n) (rows_of_system s) ≡ true

-- the number that is added for each bit
abbrev pub added_of : Taken → ℕ → ℤ
added_of t i = get_or t.added.now i +0

-- the entry of two bits, taken
abbrev pub entry_taken : Taken → BitSystem → ℕ → ℕ → ℤ
entry_taken t s = taken_entry t.times (added_of t) (rows_of_system s)
