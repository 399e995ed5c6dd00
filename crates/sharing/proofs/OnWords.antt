-- What a proof unfolds to compute what the definitions say of a model, its row system and values that stand there word by word.
use Rattle.std.specs.Prelude.{⊤}
use mathlib.Core.List.{flat_map, zip_with}
use Rattle.integers.specs.Number.{◌⊕◌, ◌⊖◌, ◌⊗◌, neg, min_z, max_z, abs_z, ◌≟◌, count}
use Rattle.integers.specs.Lists.{list_of, all, any, how_many}
use Rattle.integers.specs.Bounds.{within, width, values, bounds_in}
use Rattle.integers.specs.Terms.{value, sum}
use Rattle.words.specs.Word.{kind, payload, signed, too_low, word, complement, number_word, word_at}
use Rattle.words.specs.Variables.{variables, starts_pair}
use Rattle.words.specs.Overlay.{overlay}
use Rattle.words.specs.Refusal.{◌else_refuse◌, first_fault, count_fault, room_fault}
use Rattle.words.specs.Check.{fault_number_in}
use Rattle.words.specs.Answer.{◌else_answer◌, is_holds}
use Rattle.words.specs.Judge.{first_false, first_out_of_bounds, judge}
use Rattle.models.specs.Meaning.{on, off, element, maximum, minimum, member, odd, quotient, remainder, power, meaning}
use Rattle.models.specs.Shape.{shapes, argument}
use Rattle.models.specs.Reading as Model
use Rattle.models.specs.Reading.{read_model_in}
use Rattle.models.specs.Model.{constraints_from, constraints, source_words, var, num, size, exponent_at, vars, nums, past, terms, past_terms, builtins, builtin}
use Rattle.models.specs.JudgeModel as JudgeModel
use Rattle.models.specs.JudgeModel.{judge_model}
use Rattle.rowsystems.specs.Row.{satisfied, rename_terms, rename}
use Rattle.rowsystems.specs.RowWords.{bound_words, term_words, sum_words, row_words, bound_numbers, row_numbers}
use Rattle.rowsystems.specs.Reading as Rows
use Rattle.rowsystems.specs.Reading.{read_rows}
use Rattle.rowsystems.specs.RowSystem.{term_count, variable_at, number_at, terms_in, constant_in, rows}
use Rattle.rowsystems.specs.JudgeRows as JudgeRows
use Rattle.rowsystems.specs.JudgeRows.{judge_rows}
use Rattle.rules.specs.Block.{numbered, block_words, block_numbers, outside_in}
use Rattle.rules.specs.Parts.{Z, end_products, extreme, L, U, half_less, ◌─◌≤0, ◌─◌=0, sources, each, bits, weighted, one_bit, chosen, products, nth, places, least_from, rising, members}
use Rattle.rules.specs.Division.{M, division_table, table_row, division_rows, quotient_bounds, remainder_row}
use Rattle.rules.specs.Power.{by_halves, next, no_product, squared, multiplied, chain, next_value, no_value, squared_value, multiplied_value, power_values}
use Rattle.rules.specs.Rule as Rule
use Rattle.rules.specs.Rule.{rule}
use Rattle.rules.specs.Pick.{bit_of, sign_pick, signed_pick, first_bit, gated_pick, division_pick, left_over_pick, power_pick, pick}
use Rattle.rules.specs.Shared.{choice, encodes, shared_in, shares, encoded_after, bit_products, value_bit, new_bits, new_rows, kept, left_out, kept_sum, shared_rule, rule_after, new_pick, shared_pick, pick_after}
use Rattle.rules.specs.Translation.{bounds, shared, block_of, each_block, blocks_words, system_words, auxiliaries, block_rows, picks}
use Rattle.rules.specs.Check.{too_wide, block_fault_in, blocks_fault_in, check_fault_in, check_in}
use Rattle.rules.specs.Translate.{translate_fault_in, translate_in, translated_in}
use Rattle.rules.specs.Fill.{filled_count, fill_fault_in, fill_in, filled_in}

unfoldable pub on_words : ⊤
unfolding within width values bounds_in list_of all any how_many ◌⊕◌ ◌⊖◌ ◌⊗◌ neg min_z max_z abs_z ◌≟◌ count value sum ◌else_answer◌ is_holds
    first_false first_out_of_bounds judge overlay ◌else_refuse◌ first_fault count_fault starts_pair variables kind payload signed word complement
    number_word word_at JudgeModel.judge_accepted JudgeRows.judge_accepted judge_model on off element maximum minimum member odd quotient remainder
    power meaning constraints_from constraints var num size exponent_at vars nums past terms past_terms builtins builtin too_low Model.fault_head
    Model.fault_start_in Model.fault_upper_in Rows.fault_upper fault_number_in Model.fault_variable Rows.fault_variable Model.fault_count_in
    Model.fault_argument_in Model.fault_due_in Rows.fault_due Model.fault_in Rows.fault Model.after_head Model.after_argument Model.after_due
    Rows.after_due Model.declared Model.started Rows.started Model.after Rows.after Model.fault_end Rows.fault_end Model.ended Rows.ended
    read_model_in shapes argument judge_rows Rows.fault_lower Rows.fault_item Rows.fault_source Rows.not_above Rows.fault_result Rows.after_item
    read_rows satisfied rename_terms rename term_count variable_at number_at terms_in constant_in rows bound_words term_words sum_words row_words
    bound_numbers row_numbers numbered block_words block_numbers outside_in too_wide block_fault_in blocks_fault_in check_fault_in check_in
    filled_count fill_fault_in fill_in filled_in Z end_products extreme L U half_less ◌─◌≤0 ◌─◌=0 sources each bits weighted one_bit chosen products
    nth places least_from rising members bit_of sign_pick signed_pick first_bit gated_pick division_pick left_over_pick power_pick pick by_halves next
    no_product squared multiplied chain next_value no_value squared_value multiplied_value power_values M division_table table_row division_rows
    quotient_bounds remainder_row Rule.linked Rule.sign_split Rule.where_one Rule.where_zero Rule.order_reified Rule.only_negative Rule.absolute
    Rule.touching Rule.lin_not_equal Rule.zero_rows Rule.zero_reified Rule.lin_less_equal_reified Rule.same_rows Rule.same_reified Rule.number_element
    Rule.variable_element Rule.first_only Rule.one_of Rule.in_set Rule.in_set_reified Rule.division Rule.left_over Rule.powered rule room_fault
    translate_fault_in translate_in translated_in choice encodes shared_in shares encoded_after bit_products value_bit new_bits new_rows kept left_out
    kept_sum shared_rule rule_after new_pick shared_pick pick_after bounds shared block_of each_block source_words blocks_words system_words
    auxiliaries block_rows picks flat_map zip_with
on_words = tt
