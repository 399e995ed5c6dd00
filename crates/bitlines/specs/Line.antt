-- What a row over bits adds to the line of bit i: terms whose variables are the bits j, i ≤ j.
use mathlib.Core.List.{List, [], ◌∷◌, ◌++◌, flat_map}
use Rattle.std.specs.Prelude.{ℕ, ◌+◌, min, max, eqb, ℤ, pos, get_or}
use Rattle.integers.specs.Choice.{◌if◌else◌}
use Rattle.integers.specs.Number.{+0, +1, -2}
use Rattle.integers.specs.Lists.{list_of}
use Rattle.integers.specs.Terms.{Term, ◌·◌}
use Rattle.bitforms.specs.BitRow.{Pair}
use Rattle.bitforms.specs.Matrix.{square_with, Entry, not_zero}
use Rattle.bitforms.specs.FormWords.{entry_words}

-- the entry of bits i ≤ j in the square of a row over bits, whose coefficients stand in a list
unfoldable pub square_at : List ℤ → ℤ → ℕ → ℕ → ℤ
square_at row c i j = square_with (λ k. get_or row k +0) c i j

-- of bit i and the m bits from i on
unfoldable pub square_terms : List ℤ → ℤ → ℕ → ℕ → List (Term ℕ)
square_terms row c i m = list_of (λ d. square_at row c i (i + d) · (i + d)) m

-- of c × a × b
unfoldable pub on_terms : ℤ → ℕ → ℕ → ℕ → List (Term ℕ)
on_terms c a b i = c · max a b ∷ [] if eqb (min a b) i else []

-- of 3×t+u×v−2×u×t−2×v×t
unfoldable pub pair_terms : Pair → ℕ → List (Term ℕ)
pair_terms p i =
    on_terms (pos 3) p.t p.t i ++ (on_terms +1 p.u p.v i ++ (on_terms -2 p.u p.t i ++ on_terms -2 p.v p.t i))

-- a product of bits; its weight stands in no entry, so that 0 does for it
abbrev pub pair_of : ℕ → ℕ → ℕ → Pair
pair_of u v t = record { weight = +0; u = u; v = v; t = t }

-- the words of entries, zeros left out
unfoldable pub entries_words : List Entry → List ℕ
entries_words xs = flat_map entry_words (not_zero xs)
