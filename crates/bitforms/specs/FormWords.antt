-- 02, wish 14: the words of the form.
use mathlib.Core.List.{List, [], ◌∷◌, ◌++◌, flat_map}
use Rattle.std.specs.Prelude.{ℕ, ℤ}
use Rattle.words.specs.Word.{word, number_word}
use Rattle.words.specs.Kind as Kind
use Rattle.bitforms.specs.Matrix.{Entry}
use Rattle.bitforms.specs.BitForm.{form_constant, form_entries}

-- "for each pair of bit numbers i≤j .. two 5 and a 6"
unfoldable pub entry_words : Entry → List ℕ
entry_words x = word Kind.variable x.low ∷ word Kind.variable x.high ∷ number_word Kind.number x.number ∷ []

-- "the constant as a 6, even 0, then for each pair .., then F0000000"
abbrev pub words_of : ℤ → List Entry → List ℕ
words_of c xs = number_word Kind.number c ∷ (flat_map entry_words xs ++ (word Kind.rows_end 0 ∷ []))

unfoldable pub form_words : List ℕ → List ℕ
form_words ws = words_of (form_constant ws) (form_entries ws)
