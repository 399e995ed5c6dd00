-- What a variable is called.
use Rattle.std.specs.Prelude.{List, [], ℕ, Option, None}
use Rattle.flatplaces.specs.Place.{Place}

-- its name in the text, the model's names for it, each behind a blank, and its place in the model
pub record Called : Type 0 where
  pub name : List ℕ
  pub labels : List ℕ
  pub place : Option Place

-- of a variable past the end of a list
abbrev pub nameless : Called
nameless = record { name = []; labels = []; place = None }
