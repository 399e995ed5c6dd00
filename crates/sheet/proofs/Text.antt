-- The page keeps its length.
use Rattle.std.proofs.Common.{◌≡◌, refl, Bool, true, false, List, ℕ, eqb, length}
use Rattle.integers.specs.Choice.{◌if◌else◌}
use Rattle.words.specs.Overlay.{overlay}
use Rattle.words.proofs.Overlay.{length-overlay}
use Rattle.sheets.specs.Sheet.{sheet_fault, sheet_page, sheet_text}

pub same_length : (ws page : List ℕ) → length (sheet_page ws page) ≡ length page
unfolding sheet_page
same_length ws page = go (eqb (sheet_fault ws (length page)).number 0)
  where
    go : (b : Bool) → length (overlay page 0 (sheet_text ws) if b else page) ≡ length page
    go true = length-overlay page 0 (sheet_text ws)
    go false = refl
