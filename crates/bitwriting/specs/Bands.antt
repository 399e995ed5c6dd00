-- A band: a list of lines with n numbers each, line q of a band from bit i on that of bit i + q.
use Rattle.std.specs.Prelude.{◌≡◌, List, ℕ, ◌+◌, ◌*◌, ◌<◌, ◌≤◌, eqb, ℤ, length, get_or, take, drop}
use Rattle.integers.specs.Choice.{◌if◌else◌}
use Rattle.integers.specs.Number.{+0}
use Rattle.words.specs.Limit as Limit
use Rattle.bitforms.specs.BitRow.{BitRow}
use Rattle.bitforms.specs.Matrix.{entry_of}
use Rattle.bittables.specs.Systems.{rows_of_system}
use Rattle.bittables.specs.declared.table.BitSystem.{BitSystem}
use Rattle.bittaking.specs.Taking.{TakenAs}
use Rattle.bittaking.specs.declared.Taken.{Taken}

abbrev pub line_at : ℕ → ℕ → List ℤ → List ℤ
line_at n q band = take n (drop (q * n) band)

-- a band has room for h lines, and a row over bits a number for each of n bits
pub record BandAndRow (n h : ℕ) (band row : List ℤ) : Type 0 where
  pub room : h * n ≤ length band
  pub row_size : length row ≡ n
  pub few : n ≤ Limit.bits

-- what each of the first h lines was and is
pub record EachLine (P : ℕ → List ℤ → List ℤ → Type 0) (n h : ℕ) (band band' : List ℤ) : Type 0 where
  pub same : length band' ≡ length band
  pub lines : (q : ℕ) → q < h → P q (line_at n q band) (line_at n q band')

-- a list that holds the line of bit i, taken
abbrev pub TakenLine : List BitRow → ℤ → List ℤ → ℕ → List ℤ → Type 0
TakenLine rs k added i line =
    (j : ℕ) → i ≤ j → j < length line → TakenAs k (entry_of rs i j) (get_or added i +0 if eqb i j else +0) (get_or line j +0)

-- a band from bit `start` on holds the lines of the bits before `end`, taken
pub record Held (t : Taken) (s : BitSystem) (n start end : ℕ) (band : List ℤ) : Type 0 where
  pub lines : (q : ℕ) → start + q < end → TakenLine (rows_of_system s) t.times t.added.now (start + q) (line_at n q band)
  pub room : (q : ℕ) → start + q < end → q * n + n ≤ length band
