-- The rows and products of words from a place on: the word there starts none, or starts one; the end.
use Rattle.std.proofs.Common.{◌≡◌, refl, ap, ◌∙◌, Bool, true, false, ◌||◌, List, [], ◌∷◌, ℕ, ◌+◌, ◌<◌, ◌≤◌, eqb, length, get_or, drop, drop_of_length-le}
use Rattle.integers.specs.Choice.{◌if◌else◌}
use Rattle.words.specs.Kind as Kind
use Rattle.words.specs.Word.{kind}
use Rattle.words.proofs.Reading.{word-then}
use Rattle.rowsystems.specs.RowSystem.{rows}
use Rattle.rowsystems.specs.OneWord.{starts_row, row_of}

row-cases : (w : ℕ) (ws : List ℕ) (a e p : Bool) → eqb (kind w) Kind.at_most ≡ a → eqb (kind w) Kind.equal ≡ e → eqb (kind w) Kind.product ≡ p →
    rows (w ∷ ws) ≡ (row_of w ws ∷ rows ws if (a || e) || p else rows ws)
unfolding rows row_of
row-cases w ws true e p i j k = rw i
row-cases w ws false true p i j k = rw (i, j)
row-cases w ws false false true i j k = rw (i, j, k)
row-cases w ws false false false i j k = rw (i, j, k)

row_first : (w : ℕ) (ws : List ℕ) → rows (w ∷ ws) ≡ (row_of w ws ∷ rows ws if starts_row w else rows ws)
unfolding starts_row
row_first w ws = row-cases w ws (eqb (kind w) Kind.at_most) (eqb (kind w) Kind.equal) (eqb (kind w) Kind.product) refl refl refl

module _ (ws : List ℕ) (at : ℕ) where
  pub starts_none : at < length ws → starts_row (get_or ws at 0) ≡ false → rows (drop at ws) ≡ rows (drop (at + 1) ws)
  starts_none h z = ap rows (word-then ws at h) ∙ row_first _ _ ∙ rw z

  pub starts-one : at < length ws → starts_row (get_or ws at 0) ≡ true → rows (drop at ws) ≡ row_of (get_or ws at 0) (drop (at + 1) ws) ∷ rows (drop (at + 1) ws)
  starts-one h z = ap rows (word-then ws at h) ∙ row_first _ _ ∙ rw z

  pub none_left : length ws ≤ at → rows (drop at ws) ≡ []
  unfolding rows
  none_left h = rw (drop_of_length-le ws h)
