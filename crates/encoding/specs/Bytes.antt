-- 01, Five calls: "over bytes, four to a word, lowest first; .. 1 to 3 spare bytes are left off".
use Rattle.std.specs.Prelude.{List, [], ◌∷◌, ℕ, ◌+◌, ◌*◌}

-- the word of four bytes
unfoldable pub bytes_word : ℕ → ℕ → ℕ → ℕ → ℕ
bytes_word a b c d = a + 256 * b + 65536 * c + 16777216 * d

-- the words of a list of bytes
unfoldable pub bytes_words : List ℕ → List ℕ
bytes_words [] = []
bytes_words (a ∷ []) = []
bytes_words (a ∷ b ∷ []) = []
bytes_words (a ∷ b ∷ c ∷ []) = []
bytes_words (a ∷ b ∷ c ∷ d ∷ rest) = bytes_word a b c d ∷ bytes_words rest
