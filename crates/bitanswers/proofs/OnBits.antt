-- What a proof unfolds to compute what the definitions say of a row system, bits and a form that stand there word by word.
use Rattle.std.specs.Prelude.{⊤}
use mathlib.Core.List.{flat_map}
use Rattle.integers.specs.Number.{◌⊕◌, ◌⊖◌, ◌⊗◌, neg, min_z, abs_z, ◌≟◌, count}
use Rattle.integers.specs.Lists.{list_of, all}
use Rattle.integers.specs.Bounds.{within, bounds_in}
use Rattle.integers.specs.Terms.{sum, value}
use Rattle.words.specs.Word.{kind, payload, signed, too_low, word, complement, number_word, word_at}
use Rattle.words.specs.Variables.{starts_pair, variables}
use Rattle.words.specs.Overlay.{overlay}
use Rattle.words.specs.Check.{fault_number_in}
use Rattle.words.specs.Refusal.{◌else_refuse◌, first_fault, room_fault, count_fault}
use Rattle.words.specs.Answer.{◌else_answer◌, is_holds}
use Rattle.words.specs.Judge.{first_false, first_out_of_bounds, judge}
use Rattle.rowsystems.specs.Reading.{fault_lower, fault_item, fault_source, fault_upper, fault_variable, not_above, fault_result, fault_due, fault, after_item, after_due, started, after, fault_end, ended, read_rows}
use Rattle.rowsystems.specs.RowSystem.{term_count, variable_at, number_at, terms_in, constant_in, rows}
use Rattle.rowsystems.specs.Row.{satisfied}
use Rattle.rowsystems.specs.JudgeRows.{judge_rows, judge_accepted}
use Rattle.bitforms.specs.SumOver.{sum_over}
use Rattle.bitforms.specs.Weights.{weights_from, weights}
use Rattle.bitforms.specs.OverBits.{weighted_bits, scaled, over_bits, over, evaluate}
use Rattle.bitforms.specs.Encoding.{weights_of, encodings, bits_after}
use Rattle.bitforms.specs.BitRow.{least_term, least, slack_weights, pairs_with, pairs_of, product_whole, bit_row, bit_rows, bits_with}
use Rattle.bitforms.specs.Energy.{square, added, energy}
use Rattle.bitforms.specs.Matrix.{coefficient_of, square_entry, on_pair, pair_entry, entry_of, line_entries, entries_from, not_zero}
use Rattle.bitforms.specs.BitForm.{encoding, bit_rows_of, bit_count, form_constant, form_entries}
use Rattle.bitforms.specs.FormWords.{entry_words, form_words}
use Rattle.bitforms.specs.FormAnswer.{size_fault, row_fits, form_fits, number_fault, bit_form_fault, bit_form, bit_formed}
use Rattle.bitforms.specs.ReadForm.{read_entries, read_form}
use Rattle.bitforms.specs.Chosen.{left_of, chosen}
use Rattle.bitforms.specs.ValueBits.{bits_of_value, bit_products, own_bits, variable_bits, value_bits}
use Rattle.bitanswers.specs.BitFaults.{bit_count_fault, bit_fault_from, bits_fault}
use Rattle.bitanswers.specs.ReadValues.{read_values, bit_values_fault, bit_values, bit_valued}
use Rattle.bitanswers.specs.BitEnergy.{energy_at, energy_fault, bit_energy}
use Rattle.bitanswers.specs.BitsAnswer.{value_bits_fault, value_bits_answer, value_bits_written}

unfoldable pub on_bits : ⊤
unfolding flat_map sum ◌⊕◌ ◌⊖◌ ◌⊗◌ neg min_z abs_z ◌≟◌ count list_of all within bounds_in kind payload signed too_low word complement number_word
    word_at starts_pair variables overlay ◌else_refuse◌ first_fault room_fault ◌else_answer◌ fault_lower fault_item fault_source fault_upper
    fault_variable fault_number_in not_above fault_result fault_due fault after_item after_due started after fault_end ended read_rows term_count
    variable_at number_at terms_in constant_in rows sum_over weights_from weights weighted_bits scaled over_bits over weights_of encodings bits_after
    least_term least slack_weights pairs_with pairs_of product_whole bit_row bit_rows bits_with square coefficient_of square_entry on_pair pair_entry
    entry_of line_entries entries_from not_zero encoding bit_rows_of bit_count form_constant form_entries entry_words form_words size_fault row_fits
    form_fits number_fault bit_form_fault bit_form bit_formed value count_fault is_holds first_false first_out_of_bounds judge satisfied judge_rows
    judge_accepted added energy evaluate read_entries read_form left_of chosen bits_of_value bit_products own_bits variable_bits value_bits
    bit_count_fault bit_fault_from bits_fault read_values bit_values_fault bit_values bit_valued energy_at energy_fault bit_energy value_bits_fault
    value_bits_answer value_bits_written
on_bits = tt
