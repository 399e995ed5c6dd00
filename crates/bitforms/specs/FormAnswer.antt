-- 02, wish 14: the faults, the answer, and what the lent output holds afterwards.
use Rattle.std.specs.Prelude.{Bool, ◌&&◌, List, ℕ, ltb, eqb, ℤ, pos, length}
use Rattle.std.specs.Int.Signed.{le_z}
use Rattle.integers.specs.Choice.{◌if◌else◌}
use Rattle.integers.specs.Number.{abs_z}
use Rattle.integers.specs.Lists.{list_of, all}
use Rattle.words.specs.Word.{in_range}
use Rattle.words.specs.Fault as Fault
use Rattle.words.specs.Limit as Limit
use Rattle.words.specs.Overlay.{overlay}
use Rattle.words.specs.Refusal.{accepted, ◌at_place◌, ◌else_refuse◌, room_fault}
use Rattle.words.specs.Answer.{Answer, written, ◌else_answer◌}
use Rattle.words.specs.Refusals.{Refusal}
use Rattle.rowsystems.specs.Reading.{read_rows}
use Rattle.bitforms.specs.BitRow.{BitRow}
use Rattle.bitforms.specs.Matrix.{coefficient_of, Entry}
use Rattle.bitforms.specs.BitForm.{bit_rows_of, bit_count, form_constant, form_entries}
use Rattle.bitforms.specs.FormWords.{form_words}

-- "23 when more than 1,024 bits are needed"
unfoldable pub size_fault : List ℕ → Refusal
size_fault ws = Fault.too_many_bits at_place 0 if ltb Limit.bits (bit_count ws) else accepted

-- "24 when a row over bits, like bits added, has a coefficient or constant beyond plus or minus 16,384", n bits in all
unfoldable pub row_fits : ℕ → BitRow → Bool
row_fits n r =
    le_z (abs_z r.whole.constant) (pos Limit.bit_numbers)
    && all (λ i. le_z (abs_z (coefficient_of r.whole.terms i)) (pos Limit.bit_numbers)) (list_of (λ i. i) n)

-- "or an entry or the form's constant is outside the range"
abbrev pub all_in_range : List Entry → Bool
all_in_range xs = all (λ x. in_range x.number) xs

-- the rows of a row system's words, and the constant and the entries of a form over its bits
abbrev pub all_fit : List ℕ → ℤ → List Entry → Bool
all_fit ws c xs = all (row_fits (bit_count ws)) (bit_rows_of ws) && (in_range c && all_in_range xs)

unfoldable pub form_fits : List ℕ → Bool
form_fits ws = all_fit ws (form_constant ws) (form_entries ws)

abbrev pub fits_or : Bool → Refusal
fits_or fits = accepted if fits else Fault.form_too_large at_place 0

unfoldable pub number_fault : List ℕ → Refusal
number_fault ws = fits_or (form_fits ws)

-- judge-rows' faults but 15; "both after 17, place 0, then 16 for a short output"
unfoldable pub bit_form_fault : List ℕ → ℕ → Refusal
bit_form_fault ws room =
    read_rows ws else_refuse (size_fault ws else_refuse (number_fault ws else_refuse room_fault room (length (form_words ws))))

-- "The answer is the number of words; those past them stay."
unfoldable pub bit_form : List ℕ → ℕ → Answer
bit_form ws room = bit_form_fault ws room else_answer written (length (form_words ws))

unfoldable pub bit_formed : List ℕ → List ℕ → List ℕ
bit_formed ws out = overlay out 0 (form_words ws) if eqb (bit_form_fault ws (length out)).number Fault.none else out
