-- The numbers of every row that words say fit their columns: payloads have 28 bits, whatever the words are.
use Rattle.std.proofs.Common.{Bool, true, false, List, [], ◌∷◌, ℕ, ◌+◌, ◌*◌, ◌<◌, eqb, arith}
use Rattle.integers.specs.Choice.{◌if◌else◌}
use Rattle.integers.specs.Number.{+1}
use Rattle.integers.specs.Terms.{◌·◌}
use Rattle.integers.proofs.Tests.{All}
use Rattle.integers.proofs.Lists.{all-list_of}
use Rattle.words.specs.Kind as Kind
use Rattle.words.specs.Small.{Near}
use Rattle.words.specs.Word.{kind, word_at}
use Rattle.words.proofs.ReadBack.{payload-below, signed-near}
use Rattle.rowsystems.specs.Row.{Row, sum≤0, sum=0, product}
use Rattle.rowsystems.specs.RowSystem.{term_count, number_at, variable_at, terms_in, constant_in, rows}
use Rattle.sheetlines.proofs.Cells.{Fits}

abbrev pub RowFits : Row ℕ → Type 0
RowFits (sum≤0 ts c) = All Fits ts × Near c
RowFits (sum=0 ts c) = All Fits ts × Near c
RowFits (product r f g) = (r < 268435456) × (f < 268435456) × (g < 268435456)

-- a term of a product
pub one-fits : (x : ℕ) → x < 268435456 → Fits (+1 · x)
one-fits x h = record { number = omega arith; variable = h }

terms-fit : (ws : List ℕ) (n : ℕ) → All Fits (terms_in ws n)
unfolding terms_in number_at variable_at
terms-fit ws n = all-list_of Fits _ n (λ k l. record { number = signed-near (word_at ws (2 * k + 1)); variable = payload-below (word_at ws (2 * k)) })

pub rows_fit : (ws : List ℕ) → All RowFits (rows ws)
unfolding rows constant_in number_at variable_at
rows_fit [] = tt
rows_fit (w ∷ ws) = go (eqb (kind w) Kind.at_most) (eqb (kind w) Kind.equal) (eqb (kind w) Kind.product) (rows_fit ws)
  where
    go : (a e p : Bool) → All RowFits (rows ws) →
        All RowFits (sum≤0 (terms_in ws (term_count w)) (constant_in ws (term_count w)) ∷ rows ws if a
        else sum=0 (terms_in ws (term_count w)) (constant_in ws (term_count w)) ∷ rows ws if e
        else product (variable_at ws 0) (variable_at ws 1) (variable_at ws 2) ∷ rows ws if p
        else rows ws)
    go true e p h = ((terms-fit ws (term_count w), signed-near (word_at ws (2 * term_count w))), h)
    go false true p h = ((terms-fit ws (term_count w), signed-near (word_at ws (2 * term_count w))), h)
    go false false true h = ((payload-below (word_at ws 0), payload-below (word_at ws 1), payload-below (word_at ws 2)), h)
    go false false false h = h
