-- What laying parts over a list does: the state `Laid` before and after, the list before and after.
use Rattle.std.specs.Prelude.{◌≡◌, Bool, true, not, ◌||◌, List, ℕ, ◌+◌, ◌≤◌, ltb, length}
use Rattle.integers.specs.Lists.{all}
use Rattle.words.specs.Word.{in_range}
use Rattle.words.specs.Overlay.{overlay}
use Rattle.laying.specs.Part.{Part, words_in, numbers_in, auxiliaries_in, rows_in}
use Rattle.laying.specs.declared.Laid.{Laid}

-- whether some number was outside the range
abbrev pub some_outside : Laid → Bool
some_outside s = ltb 0 s.outside

-- the parts went over the list after those of s
pub record Appends (s r : Laid) (out out' : List ℕ) (ps : List Part) : Type 0 where
  pub words : r.words ≡ s.words + length (words_in ps)
  pub auxiliaries : r.auxiliaries ≡ s.auxiliaries + auxiliaries_in ps
  pub rows : r.rows ≡ s.rows + rows_in ps
  pub outside : some_outside r ≡ (some_outside s || not (all in_range (numbers_in ps)))
  pub over : out' ≡ overlay out s.words (words_in ps)

-- so many words, auxiliaries and rows more; whether their numbers fit
pub record CountsMore (s r : Laid) (w a n : ℕ) (fit : Bool) : Type 0 where
  pub words : r.words ≡ s.words + w
  pub auxiliaries : r.auxiliaries ≡ s.auxiliaries + a
  pub rows : r.rows ≡ s.rows + n
  pub outside : some_outside r ≡ (some_outside s || not fit)

-- words of one part went over the list, with so many auxiliaries and rows more; whether its numbers fit
pub record Over (s r : Laid) (out out' ws : List ℕ) (a n : ℕ) (fit : Bool) : Type 0 where
  pub words : r.words ≡ s.words + length ws
  pub auxiliaries : r.auxiliaries ≡ s.auxiliaries + a
  pub rows : r.rows ≡ s.rows + n
  pub outside : some_outside r ≡ (some_outside s || not fit)
  pub over : out' ≡ overlay out s.words ws

-- as `Appends`, and the words where all numbers are in the range: a block with another number is refused, and its words are never read
pub record AppendsFitting (s r : Laid) (out out' : List ℕ) (ps : List Part) : Type 0 where
  pub counted : CountsMore s r (length (words_in ps)) (auxiliaries_in ps) (rows_in ps) (all in_range (numbers_in ps))
  pub over : all in_range (numbers_in ps) ≡ true → out' ≡ overlay out s.words (words_in ps)

-- nothing was laid
abbrev pub nothing : Laid
nothing = record { words = 0; auxiliaries = 0; rows = 0; outside = 0 }

-- words, auxiliaries and rows together
abbrev pub total : Laid → ℕ
total s = s.words + s.auxiliaries + s.rows

-- the counts grow by at most n
abbrev pub GrowsBy : ℕ → Laid → Laid → Type 0
GrowsBy n s r = total r ≤ total s + n
