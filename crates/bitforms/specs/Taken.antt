-- The form of a row system taken k times, and a sum over bits that is added to it: c to the constant, and to the entry of each bit where it meets itself a
-- number of its own. The form itself is the one taken once, to which nothing is added.
use Rattle.std.specs.Prelude.{List, ℕ, eqb, ℤ, length}
use Rattle.integers.specs.Choice.{◌if◌else◌}
use Rattle.integers.specs.Number.{◌⊕◌, ◌⊗◌, +0}
use Rattle.words.specs.Refusal.{◌else_refuse◌, room_fault}
use Rattle.words.specs.Refusals.{Refusal}
use Rattle.bitforms.specs.BitRow.{BitRow}
use Rattle.bitforms.specs.Matrix.{Entry, entry_of, entries_from, not_zero}
use Rattle.bitforms.specs.BitForm.{bit_rows_of, bit_count, form_constant}
use Rattle.bitforms.specs.FormWords.{words_of}
use Rattle.bitforms.specs.FormAnswer.{all_fit, fits_or}

unfoldable pub taken_entry : ℤ → (ℕ → ℤ) → List BitRow → ℕ → ℕ → ℤ
taken_entry k a rs i j = k ⊗ entry_of rs i j ⊕ (a i if eqb i j else +0)

-- of a row system's words
abbrev pub taken_constant : List ℕ → ℤ → ℤ → ℤ
taken_constant ws k c = k ⊗ form_constant ws ⊕ c

abbrev pub taken_entries : List ℕ → ℤ → (ℕ → ℤ) → List Entry
taken_entries ws k a = not_zero (entries_from (taken_entry k a (bit_rows_of ws)) 0 (bit_count ws))

abbrev pub taken_words : List ℕ → ℤ → ℤ → (ℕ → ℤ) → List ℕ
taken_words ws k c a = words_of (taken_constant ws k c) (taken_entries ws k a)

-- 24, then 16
abbrev pub taken_fault : List ℕ → ℤ → ℤ → (ℕ → ℤ) → ℕ → Refusal
taken_fault ws k c a room =
    fits_or (all_fit ws (taken_constant ws k c) (taken_entries ws k a)) else_refuse room_fault room (length (taken_words ws k c a))
