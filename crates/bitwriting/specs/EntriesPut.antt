-- Entries that are tested and laid over an output from a place on: their words and the place after them, none if one is outside the range.
use Rattle.std.specs.Prelude.{◌≡◌, List, ℕ, Option, IfSome}
use Rattle.std.specs.Option.{is_some}
use Rattle.words.specs.LaidAt.{LaidAt}
use Rattle.bitforms.specs.Matrix.{Entry}
use Rattle.bitforms.specs.FormAnswer.{all_in_range}
use Rattle.bitlines.specs.Line.{entries_words}

pub record EntriesPut (xs : List Entry) (out : List ℕ) (at : ℕ) (out' : List ℕ) (end : Option ℕ) : Type 0 where
  pub tested : is_some end ≡ all_in_range xs
  pub laid : IfSome end (λ e. LaidAt out at (entries_words xs) out' e)
