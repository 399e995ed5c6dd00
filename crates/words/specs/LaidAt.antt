-- What a writer to a lent list leaves: a text laid over the list from a place on, as far as it fits, and the place where the text ends.
use Rattle.std.specs.Prelude.{◌≡◌, List, ℕ, ◌+◌, length}
use Rattle.words.specs.Overlay.{overlay}

pub record LaidAt {A : Type 0} (before : List A) (at : ℕ) (text after : List A) (end : ℕ) : Type 0 where
  pub over : after ≡ overlay before at text
  pub ends : end ≡ at + length text
