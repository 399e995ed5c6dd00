-- How many words, rows and terms there are, and how large a row's numbers are, for proofs that walk over rows.
use Rattle.std.proofs.Common.{◌≡◌, refl, Bool, true, false, List, [], ◌∷◌, ℕ, ◌≤◌, arith, ltb, eqb, length, ltb-false}
use Rattle.integers.specs.Choice.{◌if◌else◌}
use Rattle.integers.proofs.Tests.{capped}
use Rattle.words.specs.Fault as Fault
use Rattle.words.specs.Kind as Kind
use Rattle.words.specs.Limit as Limit
use Rattle.words.specs.Refusal.{◌at_place◌, first_fault}
use Rattle.words.specs.Word.{kind, payload}
use Rattle.words.specs.Refusals.{Refusal}
use Rattle.rowsystems.specs.Reading.{fault, after, ended, begin, read_rows}
use Rattle.rowsystems.specs.Row.{Row}
use Rattle.rowsystems.specs.RowSystem.{term_count, rows}

-- accepted words are not too many
pub few_words : (ws : List ℕ) → (read_rows ws).number ≡ 0 → length ws ≤ Limit.row_words
unfolding read_rows
few_words ws e = go (first_fault fault after ended begin 0 ws) (ltb Limit.row_words (length ws)) refl e
  where
    go : (r : Refusal) (b : Bool) → ltb Limit.row_words (length ws) ≡ b → ((Fault.too_many_words at_place 0) if b else r).number ≡ 0 → length ws ≤ Limit.row_words
    go r true h e = absurd (omega arith)
    go r false h e = omega (arith, ltb-false)

-- no row counts more terms than the limit
pub count-few : (w : ℕ) → term_count w ≤ Limit.terms
unfolding term_count
count-few w = capped (payload w) Limit.terms Limit.terms (omega arith)

-- there are no more rows than words
pub rows_few : (ws : List ℕ) → length (rows ws) ≤ length ws
unfolding rows
rows_few [] = omega arith
rows_few (w ∷ ws) = go _ _ _ (eqb (kind w) Kind.at_most) (eqb (kind w) Kind.equal) (eqb (kind w) Kind.product) (rows_few ws)
  where
    go : (x y z : Row ℕ) (a e p : Bool) → length (rows ws) ≤ length ws → length (x ∷ rows ws if a else y ∷ rows ws if e else z ∷ rows ws if p else rows ws) ≤ length (w ∷ ws)
    go x y z true e p h = omega arith
    go x y z false true p h = omega arith
    go x y z false false true h = omega arith
    go x y z false false false h = omega arith
