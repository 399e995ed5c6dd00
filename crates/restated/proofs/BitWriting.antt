-- Line after line: the entries left, tested and laid, with the line and the row over bits that they are made from.
use Rattle.std.proofs.Common.{◌≡◌, ◌∙◌, false, List, ℕ, ◌+◌, ◌*◌, ◌-◌, ◌<◌, ◌≤◌, ℤ, length, Some}
use Rattle.words.proofs.Rest.{Rest}
use Rattle.bitforms.specs.Matrix.{line_entries, entries_from}
use Rattle.bitforms.specs.FormAnswer.{all_in_range}
use Rattle.bitlines.specs.Line.{entries_words}
use Rattle.bitfilling.specs.Added.{LineAndRow}
use Rattle.bitwriting.specs.EntriesPut.{EntriesPut}
use Rattle.bitwriting.proofs.Putting as Lines

pub record Putting (e : ℕ → ℕ → ℤ) (n at : ℕ) (out₀ out : List ℕ) (to i : ℕ) (line row : List ℤ) : Type 0 where
  pub place : i ≤ n
  pub rest : Rest out₀ at (entries_words (entries_from e 0 n)) out to (entries_words (entries_from e i (n - i)))
  pub fits : all_in_range (entries_from e i (n - i)) ≡ all_in_range (entries_from e 0 n)
  pub small : to ≤ at + 3072 * i
  pub sized : LineAndRow n line row
  pub same_out : length out ≡ length out₀

module _ {e : ℕ → ℕ → ℤ} {n at : ℕ} {out₀ out : List ℕ} {to i : ℕ} {line row : List ℤ} where
  with_lines : Lines.Putting e n at out₀ out to i → LineAndRow n line row → Putting e n at out₀ out to i line row
  with_lines k s = record { place = k.place; rest = k.rest; fits = k.fits; small = k.small; sized = s; same_out = k.same_out }

  without_lines : Putting e n at out₀ out to i line row → Lines.Putting e n at out₀ out to i
  without_lines k = record { place = k.place; rest = k.rest; fits = k.fits; small = k.small; few = k.sized.few; same_out = k.same_out }

pub putting-begun : (e : ℕ → ℕ → ℤ) (n at : ℕ) (out : List ℕ) (line row : List ℤ) → LineAndRow n line row → Putting e n at out out at 0 line row
putting-begun e n at out line row s = with_lines (Lines.putting-begun e n at out s.few) s

module _ {e : ℕ → ℕ → ℤ} {n at : ℕ} {out₀ out : List ℕ} {to i : ℕ} {line row : List ℤ} (k : Putting e n at out₀ out to i line row) where
  module _ (h : i < n) where
    pub putting-more : {out' : List ℕ} {end : ℕ} {line' row' : List ℤ} → EntriesPut (line_entries (e i) i (n - i)) out to out' (Some end) →
        length line' ≡ length line → length row' ≡ length row → Putting e n at out₀ out' end (i + 1) line' row'
    putting-more s p q = with_lines (Lines.putting-more (without_lines k) h s) (record { line_size = p ∙ k.sized.line_size; row_size = q ∙ k.sized.row_size; few = k.sized.few })

    pub putting-fails : all_in_range (line_entries (e i) i (n - i)) ≡ false → false ≡ all_in_range (entries_from e 0 n)
    putting-fails = Lines.putting-fails (without_lines k) h

  pub putting-done : n ≤ i → EntriesPut (entries_from e 0 n) out₀ at out (Some to)
  putting-done = Lines.putting-done (without_lines k)
