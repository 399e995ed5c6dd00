-- The form at its edges, as a table of computed equations: a product of a variable with itself, width 0, a row that no values satisfy, a slack, a last weight
-- that is cut, 1,024 bits and 1,025, a coefficient of 16,384 and 16,385, an entry of two bits outside the range, too many bits before a coefficient too large.
use Rattle.std.proofs.Common.{◌≡◌, refl, List, [], ◌∷◌, ◌++◌, ℕ, zero, suc, ◌+◌, length, replicate}
use mathlib.Core.List.{flat_map, map}
use Rattle.integers.specs.Number.{◌⊕◌, ◌⊖◌, ◌⊗◌, neg, min_z, abs_z, ◌≟◌, count}
use Rattle.integers.specs.Lists.{list_of, all}
use Rattle.integers.specs.Bounds.{within, bounds_in}
use Rattle.integers.specs.Terms.{sum}
use Rattle.words.specs.Word.{kind, payload, signed, too_low, word, complement, number_word, word_at}
use Rattle.words.specs.Variables.{starts_pair, variables}
use Rattle.words.specs.Overlay.{overlay}
use Rattle.words.specs.Check.{fault_number_in}
use Rattle.words.specs.Refusal.{accepted, ◌else_refuse◌, first_fault, room_fault}
use Rattle.words.specs.Answer.{refused, written, ◌else_answer◌}
use Rattle.rowsystems.specs.Reading.{fault_lower, fault_item, fault_source, fault_upper, fault_variable, not_above, fault_result, fault_due, fault, after_item, after_due, started, after, fault_end, ended, read_rows}
use Rattle.rowsystems.specs.RowSystem.{term_count, variable_at, number_at, terms_in, constant_in, rows}
use Rattle.bitforms.specs.SumOver.{sum_over}
use Rattle.bitforms.specs.Weights.{weights_from, weights}
use Rattle.bitforms.specs.OverBits.{weighted_bits, scaled, over_bits, over}
use Rattle.bitforms.specs.Encoding.{weights_of, encodings, bits_after}
use Rattle.bitforms.specs.BitRow.{least_term, least, slack_weights, pairs_with, pairs_of, product_whole, bit_row, bit_rows, bits_with}
use Rattle.bitforms.specs.Energy.{square}
use Rattle.bitforms.specs.Matrix.{coefficient_of, square_entry, on_pair, pair_entry, entry_of, line_entries, entries_from, not_zero}
use Rattle.bitforms.specs.BitForm.{encoding, bit_rows_of, bit_count, form_constant, form_entries}
use Rattle.bitforms.specs.FormWords.{entry_words, form_words}
use Rattle.bitforms.specs.FormAnswer.{size_fault, row_fits, form_fits, number_fault, bit_form_fault, bit_form, bit_formed}

-- the words of a form are written, and a place past them stays
abbrev Writes : List ℕ → List ℕ → Type 0
Writes system form =
    (bit_form system (length form + 1) ≡ written (length form)) × (bit_formed system (replicate (length form + 1) 7) ≡ form ++ (7 ∷ []))

-- a fault, place 0, however long the output is
abbrev Refuses : List ℕ → ℕ → Type 0
Refuses system number = (room : ℕ) → bit_form system room ≡ refused number 0

-- so many bits, and not too many
abbrev Needs : List ℕ → ℕ → Type 0
Needs system bits = (bit_count system ≡ bits) × (size_fault system ≡ accepted)

-- variables of 28 bits each, before other words
abbrev wide : ℕ → List ℕ → List ℕ
wide zero ws = ws
wide (suc n) ws = 0x18000001 ∷ 0x27FFFFFF ∷ wide n ws

-- x in 1..2, y in 1..4, y := x×x: the row y1+2×y2−2×x−t, and 3×t+x−4×x×t; the entry of x and t is 4−4, left out
abbrev squared_rows : List ℕ
squared_rows = 0x10000001 ∷ 0x20000002 ∷ 0x10000001 ∷ 0x20000004 ∷ 0xC0000000 ∷ 0x50000001 ∷ 0x50000000 ∷ 0x50000000 ∷ 0xF0000000 ∷ []

abbrev squared_form : List ℕ
squared_form =
    0x60000000 ∷ 0x50000000 ∷ 0x50000000 ∷ 0x60000005 ∷ 0x50000000 ∷ 0x50000001 ∷ 0x6FFFFFFC ∷ 0x50000000 ∷ 0x50000002 ∷ 0x6FFFFFF8 ∷
    0x50000001 ∷ 0x50000001 ∷ 0x60000001 ∷ 0x50000001 ∷ 0x50000002 ∷ 0x60000004 ∷ 0x50000001 ∷ 0x50000003 ∷ 0x6FFFFFFE ∷ 0x50000002 ∷
    0x50000002 ∷ 0x60000004 ∷ 0x50000002 ∷ 0x50000003 ∷ 0x6FFFFFFC ∷ 0x50000003 ∷ 0x50000003 ∷ 0x60000004 ∷ 0xF0000000 ∷ []

-- x in 5..5, x−5=0: no bits, and 0
abbrev fixed_rows : List ℕ
fixed_rows = 0x10000005 ∷ 0x20000005 ∷ 0xB0000001 ∷ 0x50000000 ∷ 0x60000001 ∷ 0x6FFFFFFB ∷ 0xF0000000 ∷ []

abbrev fixed_form : List ℕ
fixed_form = 0x60000000 ∷ 0xF0000000 ∷ []

-- a Boolean x, x+1≤0, which no value satisfies: no slack, (x+1)²
abbrev never_rows : List ℕ
never_rows = 0x30000000 ∷ 0xA0000001 ∷ 0x50000000 ∷ 0x60000001 ∷ 0x60000001 ∷ 0xF0000000 ∷ []

abbrev never_form : List ℕ
never_form = 0x60000001 ∷ 0x50000000 ∷ 0x50000000 ∷ 0x60000003 ∷ 0xF0000000 ∷ []

-- a Boolean x, −x≤0: slack 0..1, as the least sum is −1, and (slack−x)²
abbrev slack_rows : List ℕ
slack_rows = 0x30000000 ∷ 0xA0000001 ∷ 0x50000000 ∷ 0x6FFFFFFF ∷ 0x60000000 ∷ 0xF0000000 ∷ []

abbrev slack_form : List ℕ
slack_form =
    0x60000000 ∷ 0x50000000 ∷ 0x50000000 ∷ 0x60000001 ∷ 0x50000000 ∷ 0x50000001 ∷ 0x6FFFFFFE ∷ 0x50000001 ∷ 0x50000001 ∷ 0x60000001 ∷
    0xF0000000 ∷ []

-- x in 0..4: weights 1, 2 and 1, the last cut; x−4=0
abbrev cut_rows : List ℕ
cut_rows = 0x10000000 ∷ 0x20000004 ∷ 0xB0000001 ∷ 0x50000000 ∷ 0x60000001 ∷ 0x6FFFFFFC ∷ 0xF0000000 ∷ []

abbrev cut_form : List ℕ
cut_form =
    0x60000010 ∷ 0x50000000 ∷ 0x50000000 ∷ 0x6FFFFFF9 ∷ 0x50000000 ∷ 0x50000001 ∷ 0x60000004 ∷ 0x50000000 ∷ 0x50000002 ∷ 0x60000002 ∷
    0x50000001 ∷ 0x50000001 ∷ 0x6FFFFFF4 ∷ 0x50000001 ∷ 0x50000002 ∷ 0x60000004 ∷ 0x50000002 ∷ 0x50000002 ∷ 0x6FFFFFF9 ∷ 0xF0000000 ∷ []

-- 36 variables of 28 bits and one of 16
abbrev most_rows : List ℕ
most_rows = wide 36 (0x10000000 ∷ 0x2000FFFF ∷ 0xF0000000 ∷ [])

-- a Boolean more
abbrev above_rows : List ℕ
above_rows = wide 36 (0x10000000 ∷ 0x2000FFFF ∷ 0x30000000 ∷ 0xF0000000 ∷ [])

-- 16,384×x−8,192=0: the entry of x is 0
abbrev largest_rows : List ℕ
largest_rows = 0x30000000 ∷ 0xB0000001 ∷ 0x50000000 ∷ 0x60004000 ∷ 0x6FFFE000 ∷ 0xF0000000 ∷ []

abbrev largest_form : List ℕ
largest_form = 0x64000000 ∷ 0xF0000000 ∷ []

-- 16,385×x−8,192=0
abbrev larger_rows : List ℕ
larger_rows = 0x30000000 ∷ 0xB0000001 ∷ 0x50000000 ∷ 0x60004001 ∷ 0x6FFFE000 ∷ 0xF0000000 ∷ []

-- like bits added: 16,385×x−1×x−8,192=0
abbrev alike_rows : List ℕ
alike_rows = 0x30000000 ∷ 0xB0000002 ∷ 0x50000000 ∷ 0x60004001 ∷ 0x50000000 ∷ 0x6FFFFFFF ∷ 0x6FFFE000 ∷ 0xF0000000 ∷ []

abbrev alike_form : List ℕ
alike_form = 0x64000000 ∷ 0xF0000000 ∷ []

-- Booleans u and v, 16,384×u+16,384×v−8,192=0: the entries of u and of v are 0, and that of u and v is 2×16,384², outside the range
abbrev beside_rows : List ℕ
beside_rows = 0x30000000 ∷ 0x30000000 ∷ 0xB0000002 ∷ 0x50000000 ∷ 0x60004000 ∷ 0x50000001 ∷ 0x60004000 ∷ 0x6FFFE000 ∷ 0xF0000000 ∷ []

-- a bit too many, and a coefficient too large
abbrev above_and_larger_rows : List ℕ
above_and_larger_rows = wide 36 (0x10000000 ∷ 0x2000FFFF ∷ 0x30000000 ∷ 0xB0000001 ∷ 0x50000025 ∷ 0x60004001 ∷ 0x6FFFE000 ∷ 0xF0000000 ∷ [])

-- ---- the table

pub table : Writes squared_rows squared_form × Writes fixed_rows fixed_form × Writes never_rows never_form × Writes slack_rows slack_form × Writes cut_rows cut_form × Needs most_rows 1024 × Refuses above_rows 23 × Writes largest_rows largest_form × Refuses larger_rows 24 × Writes alike_rows alike_form × Refuses beside_rows 24 × Refuses above_and_larger_rows 23
unfolding flat_map map sum ◌⊕◌ ◌⊖◌ ◌⊗◌ neg min_z abs_z ◌≟◌ count list_of all within bounds_in kind payload signed too_low word complement number_word word_at starts_pair variables overlay ◌else_refuse◌ first_fault room_fault ◌else_answer◌ fault_lower fault_item fault_source fault_upper fault_variable fault_number_in not_above fault_result fault_due fault after_item after_due started after fault_end ended read_rows term_count variable_at number_at terms_in constant_in rows sum_over weights_from weights weighted_bits scaled over_bits over weights_of encodings bits_after least_term least slack_weights pairs_with pairs_of product_whole bit_row bit_rows bits_with square coefficient_of square_entry on_pair pair_entry entry_of line_entries entries_from not_zero encoding bit_rows_of bit_count form_constant form_entries entry_words form_words size_fault row_fits form_fits number_fault bit_form_fault bit_form bit_formed
table = ((refl, refl), (refl, refl), (refl, refl), (refl, refl), (refl, refl), (refl, refl), λ room. refl, (refl, refl), λ room. refl, (refl, refl), λ room. refl, λ room. refl)
