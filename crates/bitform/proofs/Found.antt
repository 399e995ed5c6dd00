-- What is found of all rows says whether they fit, and what the sum of the squares of their constants is.
use Rattle.std.proofs.Common.{◌≡◌, refl, sym, None, Some, Bool, true, false, List, ℕ, ℤ}
use Rattle.std.proofs.lemmas.Option.{none-some, same_Some}
use Rattle.integers.specs.Choice.{◌if◌else◌}
use Rattle.integers.specs.Lists.{all}
use Rattle.bitforms.specs.BitRow.{BitRow}
use Rattle.bitforms.specs.BitForm.{constant_of}
use Rattle.bitforms.specs.FormAnswer.{row_fits}
use Rattle.bitchecks.specs.Checked.{rows_checked}

pub all_none : (n : ℕ) (rs : List BitRow) → None ≡ rows_checked n rs → all (row_fits n) rs ≡ false
unfolding rows_checked
all_none n rs e = go (all (row_fits n) rs) e
  where
    go : (t : Bool) → None ≡ (Some (constant_of rs) if t else None) → t ≡ false
    go true e = absurd (none-some _ e)
    go false e = refl

pub all_some : (n : ℕ) (rs : List BitRow) {k : ℤ} → Some k ≡ rows_checked n rs → (all (row_fits n) rs ≡ true) × (k ≡ constant_of rs)
unfolding rows_checked
all_some n rs {k} e = go (all (row_fits n) rs) e
  where
    go : (t : Bool) → Some k ≡ (Some (constant_of rs) if t else None) → (t ≡ true) × (k ≡ constant_of rs)
    go true e = (refl, same_Some _ _ e)
    go false e = absurd (none-some _ (sym e))
