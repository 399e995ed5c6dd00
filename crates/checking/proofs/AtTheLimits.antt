-- Faults 1, 6, 7 and 14 at the limits of models and row systems, and 13 before 14 at one constraint, as a table of computed equations: the lists are made by
-- definitions, since they are too long to write out. Of each limit the last list within it and the first beyond.
use Rattle.std.proofs.Common.{◌≡◌, refl, List, [], ◌∷◌, ℕ, zero, suc, ◌+◌}
use mathlib.Core.List.{flat_map, zip_with}
use Rattle.integers.specs.Number.{◌⊕◌, ◌⊖◌, ◌⊗◌, neg, min_z, max_z, abs_z, ◌≟◌, count}
use Rattle.integers.specs.Lists.{list_of, all, any, how_many}
use Rattle.integers.specs.Bounds.{within, width, values, bounds_in}
use Rattle.integers.specs.Terms.{value, sum}
use Rattle.words.specs.Word.{kind, payload, signed, too_low, word, complement, number_word, word_at}
use Rattle.words.specs.Variables.{variables, starts_pair}
use Rattle.words.specs.Refusal.{◌else_refuse◌, first_fault, count_fault}
use Rattle.words.specs.Check.{fault_number_in}
use Rattle.words.specs.Answer.{refused, counts, ◌else_answer◌}
use Rattle.models.specs.Meaning.{member}
use Rattle.models.specs.Shape.{shapes, argument}
use Rattle.models.specs.Reading as Model
use Rattle.models.specs.Reading.{read_model_in}
use Rattle.models.specs.Model.{constraints_from, constraints, source_words, var, num, size, exponent_at, vars, nums, past, terms, past_terms, builtins, builtin}
use Rattle.rowsystems.specs.Row.{rename_terms, rename}
use Rattle.rowsystems.specs.RowWords.{bound_words, term_words, sum_words, row_words, bound_numbers, row_numbers}
use Rattle.rowsystems.specs.Reading as Rows
use Rattle.rowsystems.specs.Reading.{read_rows}
use Rattle.rowsystems.specs.JudgeRows.{judge_rows}
use Rattle.rules.specs.Block.{numbered, block_words, block_numbers, outside_in}
use Rattle.rules.specs.Parts.{Z, end_products, extreme, L, U, half_less, ◌─◌≤0, ◌─◌=0, sources, each, bits, weighted, one_bit, chosen, products, nth, places, least_from, rising, members}
use Rattle.rules.specs.Rule as Rule
use Rattle.rules.specs.Rule.{rule}
use Rattle.rules.specs.Shared.{bit_products, value_bit, new_bits, new_rows, kept, left_out, kept_sum, shared_rule, choice, encodes, shared_in, shares, encoded_after, rule_after}
use Rattle.rules.specs.Translation.{bounds, shared, block_of, each_block, blocks_words, system_words, auxiliaries, block_rows}
use Rattle.rules.specs.Check.{too_wide, block_fault_in, blocks_fault_in, check_fault_in, check, check_in}

-- what the table says of a model, of a row system
abbrev Refuses : List ℕ → ℕ → ℕ → Type 0
Refuses model number place = check model ≡ refused number place

abbrev RefusesRows : List ℕ → ℕ → ℕ → Type 0
RefusesRows system number place = judge_rows system [] ≡ refused number place

-- before other words: n Boolean variables; n constraints bool_xor of no variables, of an auxiliary and a row each
abbrev booleans : ℕ → List ℕ → List ℕ
booleans zero ws = ws
booleans (suc n) ws = 0x30000000 ∷ booleans n ws

abbrev no_switches : ℕ → List ℕ → List ℕ
no_switches zero ws = ws
no_switches (suc n) ws = 0x40000017 ∷ 0x60000000 ∷ no_switches n ws

-- n variables in 0..63; of the n variables from x on a constraint set_in_reif(x,{0},r) each, which has 64 auxiliaries
abbrev wide : ℕ → List ℕ → List ℕ
wide zero ws = ws
wide (suc n) ws = 0x10000000 ∷ 0x2000003F ∷ wide n ws

abbrev sets : ℕ → ℕ → ℕ → List ℕ → List ℕ
sets x zero r ws = ws
sets x (suc n) r ws = 0x4000001C ∷ (0x50000000 + x) ∷ 0x60000001 ∷ 0x60000000 ∷ (0x50000000 + r) ∷ sets (suc x) n r ws

abbrev end : List ℕ
end = 0x70000000 ∷ []

-- 63 such variables and constraints and a Boolean variable: 64 variables and 4,032 auxiliaries, and then other words
abbrev full : List ℕ → List ℕ
full ws = wide 63 (0x30000000 ∷ sets 0 63 63 ws)

-- a second Boolean variable
abbrev above : List ℕ
above = wide 63 (0x30000000 ∷ 0x30000000 ∷ sets 0 63 63 end)

-- int_lin_ne of the first variable times a number, which has three auxiliaries
abbrev one_more : ℕ → List ℕ
one_more number = 0x4000000C ∷ 0x60000001 ∷ number ∷ 0x50000000 ∷ 0x60000000 ∷ end

-- ---- the tables: 8,192 words, 256 constraints, 4,096 variables and auxiliaries; 134,217,727 times a variable in 0..63 is outside the range, and so is refused
-- before the auxiliaries that pass 4,096
pub of-models : Refuses (booleans 8192 []) 6 256 × Refuses (booleans 8193 []) 1 0 × (check (no_switches 256 end) ≡ counts 0 256 256 256 1537) × Refuses (no_switches 257 end) 7 512 × (check (full end) ≡ counts 64 63 4032 189 25076) × Refuses above 14 438 × Refuses (full (one_more 0x60000001)) 14 442 × Refuses (full (one_more 0x67FFFFFF)) 13 442
unfolding ◌else_refuse◌ first_fault count_fault starts_pair variables kind payload signed word complement number_word word_at too_low
    Model.fault_head Model.fault_start_in Model.fault_upper_in fault_number_in
    Model.fault_variable Model.fault_count_in Model.fault_argument_in Model.fault_due_in Model.fault_in Model.after_head
    Model.after_argument Model.after_due Model.declared Model.started Model.after Model.fault_end
    Model.ended read_model_in shapes argument ◌else_answer◌ within width values bounds_in list_of all any how_many ◌⊕◌ ◌⊖◌ ◌⊗◌ neg min_z max_z abs_z ◌≟◌ count value sum member
    constraints_from constraints var num size exponent_at vars nums past terms past_terms builtins builtin
    bound_words term_words sum_words row_words bound_numbers row_numbers numbered block_words block_numbers outside_in too_wide block_fault_in blocks_fault_in
    check_fault_in check_in Z end_products extreme L U half_less ◌─◌≤0 ◌─◌=0 sources each bits weighted one_bit chosen products nth places least_from rising members
    Rule.linked Rule.sign_split Rule.where_one Rule.where_zero Rule.order_reified Rule.only_negative Rule.absolute Rule.touching Rule.lin_not_equal Rule.zero_rows
    Rule.zero_reified Rule.lin_less_equal_reified Rule.same_rows Rule.same_reified Rule.number_element Rule.variable_element Rule.first_only Rule.one_of Rule.in_set Rule.in_set_reified rule
    bit_products value_bit new_bits new_rows kept left_out kept_sum shared_rule choice encodes shared_in shares encoded_after rule_after bounds shared block_of each_block source_words blocks_words system_words auxiliaries block_rows rename_terms rename flat_map zip_with
of-models = (refl, refl, refl, refl, refl, refl, refl, refl)

-- 4,096 variables, and 262,144 words: as many Boolean variables are refused at the 4,097th
pub of-rows : RefusesRows (booleans 4097 []) 14 4096 × RefusesRows (booleans 262144 []) 14 4096 × RefusesRows (booleans 262145 []) 1 0
unfolding ◌else_refuse◌ ◌else_answer◌ first_fault count_fault starts_pair variables kind payload signed word complement number_word word_at too_low fault_number_in
    judge_rows Rows.fault_upper Rows.fault_variable Rows.fault_due Rows.fault Rows.after_due Rows.started Rows.after Rows.fault_end Rows.ended Rows.fault_lower
    Rows.fault_item Rows.fault_source Rows.not_above Rows.fault_result Rows.after_item read_rows
of-rows = (refl, refl, refl)
