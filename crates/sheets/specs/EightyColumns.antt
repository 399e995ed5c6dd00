-- A sheet has lines of 80 columns, each ended by a line feed: where sheet answers that it wrote n bytes, the first n of the page are such lines.
use Rattle.std.specs.Prelude.{◌≡◌, Bool, true, ◌&&◌, List, [], ◌∷◌, ◌++◌, ℕ, suc, ◌*◌, leb, length, take}
use Rattle.integers.specs.Lists.{all}
use Rattle.words.specs.Answer.{Answer, written}

-- a byte that takes one column: a blank, or a sign of ASCII that is printed
abbrev pub takes_a_column : ℕ → Bool
takes_a_column b = leb 32 b && leb b 126

-- so many lines
pub data InLines : List ℕ → ℕ → Type 0 where
  no_line : InLines [] 0
  a-line : (columns : List ℕ) {rest : List ℕ} {lines : ℕ} → length columns ≡ 80 → all takes_a_column columns ≡ true → InLines rest lines → InLines (columns ++ (10 ∷ rest)) (suc lines)

abbrev pub EightyColumns : Answer → List ℕ → Type 0
EightyColumns answer page = (n : ℕ) → answer ≡ written n → (lines : ℕ) × ((n ≡ 81 * lines) × InLines (take n page) lines)
