-- What a writer to a page leaves: a text laid over its bytes from the place on, and the place after the text.
use Rattle.std.specs.Prelude.{◌≡◌, List, ℕ}
use Rattle.words.specs.LaidAt.{LaidAt}
use Rattle.decimals.specs.declared.Page.{Page}

pub record Prints (before : Page) (text : List ℕ) (after : Page) : Type 0 where
  pub laid : LaidAt before.bytes.now before.at text after.bytes.now after.at
  pub same_bytes : after.bytes.ghost_name ≡ before.bytes.ghost_name
