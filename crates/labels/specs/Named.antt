-- The names of a text's variables, and the token at a place.
use Rattle.std.specs.Prelude.{false, List, [], ◌∷◌, map, ℕ, ltb, length}
use Rattle.integers.specs.Choice.{◌if◌else◌}
use Rattle.tokens.specs.Token.{Token}
use Rattle.tokens.specs.Unread.{bytes_between, unread}
use Rattle.tokens.specs.declared.Span.{Span}
use Rattle.names.specs.Name.{declared_from}

-- those declared before the end of the text: the tokens after a colon
abbrev pub names_of : List ℕ → List (List ℕ)
names_of text = declared_from false (length text) (unread text 0)

-- the bytes of tokens of a text
abbrev pub spelled : List ℕ → List Span → List (List ℕ)
spelled text spans = map (λ (s : Span). bytes_between text s.place s.stop) spans

-- the bytes of the first token from a place on, none past the last one
abbrev pub first_of : List Token → List ℕ
first_of [] = []
first_of (t ∷ ts) = t.spelling

unfoldable pub first_spelling : List ℕ → ℕ → List ℕ
first_spelling text place = [] if ltb (length text) place else first_of (unread text place)
