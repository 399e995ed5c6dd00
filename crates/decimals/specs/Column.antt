-- Text in columns. 02, wish 3: "All blanks are written".
use Rattle.std.specs.Prelude.{List, [], ◌∷◌, ◌++◌, ℕ, zero, suc, ◌-◌, length}
use Prim.Native.Char.{code}

unfoldable pub blanks : ℕ → List ℕ
blanks zero = []
blanks (suc n) = code " " ∷ blanks n

-- a text right and left in so many columns
unfoldable pub right : ℕ → List ℕ → List ℕ
right columns text = blanks (columns - length text) ++ text

unfoldable pub left : ℕ → List ℕ → List ℕ
left columns text = text ++ blanks (columns - length text)
