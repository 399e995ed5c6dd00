-- 01, Table T: T1 to T12, and what 02 adds, as one table over the definitions, with one proof: a test that is computed over the whole table.
-- Where 01 says that values are false, no auxiliary values within their bounds may satisfy the rows with them either; where fill writes values,
-- judge-rows must say "holds" of them. So each of the four slips that 000 invites makes a line of the table fail (must-fail/).
use Rattle.std.proofs.Common.{◌≡◌, refl, Bool, true, false, ◌&&◌, List, [], ◌∷◌, ◌++◌, map, ℕ, zero, suc, ◌+◌, eqb, ℤ, pos, negsuc, length}
use mathlib.Core.List.{flat_map, zip_with}
use Rattle.integers.specs.Number.{◌⊕◌, ◌⊖◌, ◌⊗◌, neg, min_z, max_z, abs_z, ◌≟◌, count}
use Rattle.integers.specs.Lists.{list_of, all, any, how_many}
use Rattle.integers.specs.Bounds.{within, width, values, bounds_in}
use Rattle.integers.specs.Terms.{value, sum}
use Rattle.integers.specs.declared.Bounds.{Bounds}
use Rattle.words.specs.Word.{kind, payload, signed, too_low, word, complement, number_word, word_at}
use Rattle.words.specs.Variables.{variables, starts_pair}
use Rattle.words.specs.Overlay.{overlay}
use Rattle.words.specs.Refusal.{◌else_refuse◌, first_fault, count_fault, room_fault}
use Rattle.words.specs.Check.{fault_number_in}
use Rattle.words.specs.Answer.{Answer, refused, counts, written, holds, out_of_bounds, is_false, ◌else_answer◌, is_holds}
use Rattle.words.specs.Judge.{first_false, first_out_of_bounds, judge}
use Rattle.models.specs.Meaning.{on, off, element, maximum, minimum, member, odd, quotient, remainder, power, meaning}
use Rattle.models.specs.Shape.{shapes, argument}
use Rattle.models.specs.Reading as Model
use Rattle.models.specs.Reading.{read_model_in}
use Rattle.models.specs.Model.{constraints_from, constraints, source_words, var, num, size, exponent_at, vars, nums, past, terms, past_terms, builtins, builtin}
use Rattle.models.specs.JudgeModel as JudgeModel
use Rattle.models.specs.JudgeModel.{judge_model}
use Rattle.rowsystems.specs.Row.{satisfied, rename_terms, rename}
use Rattle.rowsystems.specs.RowWords.{bound_words, term_words, sum_words, row_words, bound_numbers, row_numbers}
use Rattle.rowsystems.specs.Reading as Rows
use Rattle.rowsystems.specs.Reading.{read_rows}
use Rattle.rowsystems.specs.RowSystem.{term_count, variable_at, number_at, terms_in, constant_in, rows}
use Rattle.rowsystems.specs.JudgeRows as JudgeRows
use Rattle.rowsystems.specs.JudgeRows.{judge_rows}
use Rattle.rules.specs.Block.{numbered, block_words, block_numbers, outside_in}
use Rattle.rules.specs.Parts.{Z, end_products, extreme, L, U, half_less, ◌─◌≤0, ◌─◌=0, sources, each, bits, weighted, one_bit, chosen, products, nth, places, least_from, rising, members}
use Rattle.rules.specs.Division.{M, division_table, table_row, division_rows, quotient_bounds, remainder_row}
use Rattle.rules.specs.Power.{by_halves, next, no_product, squared, multiplied, chain, next_value, no_value, squared_value, multiplied_value, power_values}
use Rattle.rules.specs.Rule as Rule
use Rattle.rules.specs.Rule.{rule}
use Rattle.rules.specs.Pick.{bit_of, sign_pick, signed_pick, first_bit, gated_pick, division_pick, left_over_pick, power_pick, pick}
use Rattle.rules.specs.Shared.{choice, encodes, shared_in, shares, encoded_after, bit_products, value_bit, new_bits, new_rows, kept, left_out, kept_sum, shared_rule, rule_after, new_pick, shared_pick, pick_after}
use Rattle.rules.specs.Translation.{bounds, shared, block_of, each_block, blocks_words, system_words, auxiliaries, block_rows, picks}
use Rattle.rules.specs.Check.{too_wide, block_fault_in, blocks_fault_in, check_fault, check_fault_in, check, check_in}
use Rattle.rules.specs.Translate.{translate_fault_in, translate, translate_in, translated, translated_in}
use Rattle.rules.specs.Fill.{filled_count, fill_fault_in, fill, fill_in, filled, filled_in}

-- What a line of the table says of a model's words.
pub data Line : Type 0 where
  -- check refuses them, with this number and place
  refuses : (model : List ℕ) (number place : ℕ) → Line
  -- judge-rows refuses the words of a row system so
  refuses_rows : (system : List ℕ) (number place : ℕ) → Line
  -- check accepts them, and this word is among those that translate writes
  accepts : (model : List ℕ) (word : ℕ) → Line
  -- translate writes these words, and those past the end keep their values
  translates : (model system : List ℕ) → Line
  -- this constraint is false of the values
  denies : (model : List ℕ) (values : List ℤ) (constraint : ℕ) → Line
  -- fill writes the values and these auxiliaries
  fills : (model : List ℕ) (values auxiliaries : List ℤ) → Line
  -- the same, and no other auxiliaries within their bounds satisfy the rows with the values
  fills_only : (model : List ℕ) (values auxiliaries : List ℤ) → Line
  -- check accepts them, and constraint 0 is false of all values within the bounds
  never : (model : List ℕ) → Line

-- ---- whether a line is true

same_list : {A : Type 0} → (A → A → Bool) → List A → List A → Bool
same_list same [] [] = true
same_list same [] (y ∷ ys) = false
same_list same (x ∷ xs) [] = false
same_list same (x ∷ xs) (y ∷ ys) = same x y && same_list same xs ys

is_same_answer : Answer → Answer → Bool
is_same_answer a b = same_list eqb (said a) (said b)
  where
    said : Answer → List ℕ
    said (refused n p) = 0 ∷ n ∷ p ∷ []
    said (counts v c a r w) = 1 ∷ v ∷ c ∷ a ∷ r ∷ w ∷ []
    said (written n) = 2 ∷ n ∷ []
    said holds = 3 ∷ []
    said (out_of_bounds i) = 4 ∷ i ∷ []
    said (is_false i) = 5 ∷ i ∷ []

-- all lists of values within the bounds
lists_within : List Bounds → List (List ℤ)
lists_within [] = [] ∷ []
lists_within (B ∷ Bs) = flat_map (λ x. map (λ xs. x ∷ xs) (lists_within Bs)) (values B)

is_accepted : List ℕ → Bool
is_accepted m = eqb (check_fault m).number 0

-- the lists of auxiliaries within their bounds that satisfy the rows with the values
completions : List ℕ → List ℤ → ℕ
completions m vs = how_many (λ xs. is_holds (judge_rows (system_words m) (vs ++ xs))) (lists_within (auxiliaries m))

-- the constraint is false of the values, and no auxiliaries within their bounds satisfy the rows with them
is_denied : List ℕ → ℕ → List ℤ → Bool
is_denied m i vs = is_same_answer (judge_model m vs) (is_false i) && eqb (completions m vs) 0

-- what lent words and values hold before a call
unused_words : List ℕ
unused_words = 7 ∷ 8 ∷ []

unused_values : List ℤ
unused_values = pos 7 ∷ pos 8 ∷ []

-- fill writes the values and the auxiliaries, and judge-rows says "holds" of them
is_filled : List ℕ → List ℤ → List ℤ → Bool
is_filled m vs xs =
    is_same_answer (fill m vs (length vs + length xs + 2)) (written (length vs + length xs))
    && same_list ◌≟◌ (filled m vs (map (λ x. pos 0) (vs ++ xs) ++ unused_values)) (vs ++ xs ++ unused_values)
    && is_holds (judge_rows (system_words m) (vs ++ xs))

pub is_true : Line → Bool
is_true (refuses m n p) = is_same_answer (check m) (refused n p)
is_true (refuses_rows s n p) = is_same_answer (judge_rows s []) (refused n p)
is_true (accepts m w) = is_accepted m && any (eqb w) (system_words m)
is_true (translates m ws) =
    is_same_answer (translate m (length ws + 2)) (written (length ws))
    && same_list eqb (translated m (ws ++ unused_words)) (ws ++ unused_words)
    && same_list eqb (translated m (map (λ w. 0) ws ++ unused_words)) (ws ++ unused_words)
is_true (denies m vs i) = is_denied m i vs
is_true (fills m vs xs) = is_filled m vs xs
is_true (fills_only m vs xs) = is_filled m vs xs && eqb (completions m vs) 1
is_true (never m) = is_accepted m && all (is_denied m 0) (lists_within (variables m))

-- ---- the table

T3 : List ℕ
T3 = 0x10000000 ∷ 0x20000003 ∷ 0x10000000 ∷ 0x20000002 ∷ 0x40000004 ∷ 0x50000000 ∷ 0x50000001 ∷ 0x70000000 ∷ []

-- int_abs, x and y in −3..3
T5 : List ℕ
T5 = 0x1FFFFFFD ∷ 0x20000003 ∷ 0x1FFFFFFD ∷ 0x20000003 ∷ 0x40000008 ∷ 0x50000000 ∷ 0x50000001 ∷ 0x70000000 ∷ []

-- int_lin_ne 1×x, c=0, x in −5..3
T6 : List ℕ
T6 = 0x1FFFFFFB ∷ 0x20000003 ∷ 0x4000000C ∷ 0x60000001 ∷ 0x60000001 ∷ 0x50000000 ∷ 0x60000000 ∷ 0x70000000 ∷ []

-- int_eq_reif, a and b in 0..3
T7 : List ℕ
T7 = 0x10000000 ∷ 0x20000003 ∷ 0x10000000 ∷ 0x20000003 ∷ 0x30000000 ∷ 0x4000000E ∷ 0x50000000 ∷ 0x50000001 ∷ 0x50000002 ∷ 0x70000000 ∷ []

-- 26 and 33: m between the words given, two others in −4..−2
of_two : ℕ → ℕ → ℕ → List ℕ
of_two head lower upper =
    lower ∷ upper ∷ 0x1FFFFFFC ∷ 0x2FFFFFFE ∷ 0x1FFFFFFC ∷ 0x2FFFFFFE ∷
    head ∷ 0x50000000 ∷ 0x60000002 ∷ 0x50000001 ∷ 0x50000002 ∷ 0x70000000 ∷ []

-- maximum, m and two others in −4..−2
T8 : List ℕ
T8 = of_two 0x4000001A 0x1FFFFFFC 0x2FFFFFFE

-- code 5, a in 0..134,217,727, b between the words given
T9 : ℕ → ℕ → List ℕ
T9 lower upper = 0x10000000 ∷ 0x27FFFFFF ∷ lower ∷ upper ∷ 0x30000000 ∷ 0x40000005 ∷ 0x50000000 ∷ 0x50000001 ∷ 0x50000002 ∷ 0x70000000 ∷ []

-- code 24, n=3, i in 4..5; c in 1..3, the list 1, 2, 3
T10 : List ℕ
T10 =
    0x10000004 ∷ 0x20000005 ∷ 0x10000001 ∷ 0x20000003 ∷
    0x40000018 ∷ 0x50000000 ∷ 0x60000003 ∷ 0x60000001 ∷ 0x60000002 ∷ 0x60000003 ∷ 0x50000001 ∷ 0x70000000 ∷ []

-- code 28, x from 0 to the word given, the set 3
T11 : ℕ → List ℕ
T11 upper = 0x10000000 ∷ upper ∷ 0x30000000 ∷ 0x4000001C ∷ 0x50000000 ∷ 0x60000001 ∷ 0x60000003 ∷ 0x50000001 ∷ 0x70000000 ∷ []

-- code 21, both lists empty
T12 : List ℕ
T12 = 0x40000015 ∷ 0x60000000 ∷ 0x60000000 ∷ 0x70000000 ∷ []

-- 02, Wish 5: code 23 of three and of four switches, and of none
switches : List ℕ
switches = 0x30000000 ∷ 0x30000000 ∷ 0x30000000 ∷ 0x40000017 ∷ 0x60000003 ∷ 0x50000000 ∷ 0x50000001 ∷ 0x50000002 ∷ 0x70000000 ∷ []

four_switches : List ℕ
four_switches =
    0x30000000 ∷ 0x30000000 ∷ 0x30000000 ∷ 0x30000000 ∷
    0x40000017 ∷ 0x60000004 ∷ 0x50000000 ∷ 0x50000001 ∷ 0x50000002 ∷ 0x50000003 ∷ 0x70000000 ∷ []

no_switches : List ℕ
no_switches = 0x40000017 ∷ 0x60000000 ∷ 0x70000000 ∷ []

-- 02, Wish 2: so many Boolean variables, where 18 comes before 6 and 14
booleans : ℕ → List ℕ
booleans zero = []
booleans (suc n) = 0x30000000 ∷ booleans n

-- codes 29 to 31, 37 and 38, two variables in −3..3 and a third one
three : ℕ → List ℕ → List ℕ
three head third = 0x1FFFFFFD ∷ 0x20000003 ∷ 0x1FFFFFFD ∷ 0x20000003 ∷ (third ++ (head ∷ 0x50000000 ∷ 0x50000001 ∷ 0x50000002 ∷ 0x70000000 ∷ []))

-- int_min, c in −3..3
of29 : List ℕ
of29 = three 0x4000001D (0x1FFFFFFD ∷ 0x20000003 ∷ [])

-- int_lt_reif, int_ne_reif
of30 : List ℕ
of30 = three 0x4000001E (0x30000000 ∷ [])

of31 : List ℕ
of31 = three 0x4000001F (0x30000000 ∷ [])

-- int_lin_ne_reif 1×x, c=0, x in −5..3
of32 : List ℕ
of32 =
    0x1FFFFFFB ∷ 0x20000003 ∷ 0x30000000 ∷
    0x40000020 ∷ 0x60000001 ∷ 0x60000001 ∷ 0x50000000 ∷ 0x60000000 ∷ 0x50000001 ∷ 0x70000000 ∷ []

-- minimum, m and two others in −4..−2; minimum of an empty list
of33 : List ℕ
of33 = of_two 0x40000021 0x1FFFFFFC 0x2FFFFFFE

none_of33 : List ℕ
none_of33 = 0x1FFFFFFC ∷ 0x2FFFFFFE ∷ 0x40000021 ∷ 0x50000000 ∷ 0x60000000 ∷ 0x70000000 ∷ []

-- codes 34 to 36, three Boolean variables
of_bits : ℕ → List ℕ
of_bits head = 0x30000000 ∷ 0x30000000 ∷ 0x30000000 ∷ head ∷ 0x50000000 ∷ 0x50000001 ∷ 0x50000002 ∷ 0x70000000 ∷ []

-- int_div, int_mod, n, d and q or r in −3..3
of37 : List ℕ
of37 = three 0x40000025 (0x1FFFFFFD ∷ 0x20000003 ∷ [])

of38 : List ℕ
of38 = three 0x40000026 (0x1FFFFFFD ∷ 0x20000003 ∷ [])

-- int_pow, x within given bounds, the word of k, z in −27..27
of39 : ℕ → ℕ → ℕ → List ℕ
of39 lower upper k = lower ∷ upper ∷ 0x1FFFFFE5 ∷ 0x2000001B ∷ 0x40000027 ∷ 0x50000000 ∷ k ∷ 0x50000001 ∷ 0x70000000 ∷ []

-- 02, wish 10, ties where the greater bound of one side is the less of the other: int_max, a and b in −3..3, c in 3..5; maximum, m in −2..0, and
-- minimum, m in −6..−4, two others in −4..−2
of9 : List ℕ
of9 = three 0x40000009 (0x10000003 ∷ 0x20000005 ∷ [])

-- 02, Wish 7: i from the word given to 2 and c in 5..6, shared by 24 of the list 5, 6 and 27 of the set given
shared24and27 : ℕ → List ℕ → List ℕ
shared24and27 lower set =
    lower ∷ 0x20000002 ∷ 0x10000005 ∷ 0x20000006 ∷
    0x40000018 ∷ 0x50000000 ∷ 0x60000002 ∷ 0x60000005 ∷ 0x60000006 ∷ 0x50000001 ∷ 0x4000001B ∷ 0x50000000 ∷ (set ++ (0x70000000 ∷ []))

-- the value 0 left out at the first, the value 2 at the later
out_at_first : List ℕ
out_at_first = shared24and27 0x10000000 (0x60000003 ∷ 0x60000000 ∷ 0x60000001 ∷ 0x60000002 ∷ [])

out_at_later : List ℕ
out_at_later = shared24and27 0x10000001 (0x60000001 ∷ 0x60000001 ∷ [])

-- i in 0..1, y and c in −3..3, shared by 28 of the set 1 and 25 of the list y
shared28and25 : List ℕ
shared28and25 =
    0x10000000 ∷ 0x20000001 ∷ 0x1FFFFFFD ∷ 0x20000003 ∷ 0x1FFFFFFD ∷ 0x20000003 ∷ 0x30000000 ∷
    0x4000001C ∷ 0x50000000 ∷ 0x60000001 ∷ 0x60000001 ∷ 0x50000003 ∷
    0x40000019 ∷ 0x50000000 ∷ 0x60000001 ∷ 0x50000001 ∷ 0x50000002 ∷ 0x70000000 ∷ []

-- x from 0 to the word given, shared by 27 and 27 of the set 3
twice27 : ℕ → List ℕ
twice27 upper =
    0x10000000 ∷ upper ∷
    0x4000001B ∷ 0x50000000 ∷ 0x60000001 ∷ 0x60000003 ∷ 0x4000001B ∷ 0x50000000 ∷ 0x60000001 ∷ 0x60000003 ∷ 0x70000000 ∷ []

pub table : List Line
table =
    translates (0x70000000 ∷ []) (0xF0000000 ∷ []) ∷
    refuses [] 2 0 ∷
    translates T3
    (0x10000000 ∷ 0x20000003 ∷ 0x10000000 ∷ 0x20000002 ∷ 0x80000000 ∷ 0x90000001 ∷
    0xA0000003 ∷ 0x50000000 ∷ 0x60000001 ∷ 0x50000001 ∷ 0x6FFFFFFF ∷ 0x50000002 ∷ 0x6FFFFFFC ∷ 0x60000001 ∷
    0xA0000003 ∷ 0x50000001 ∷ 0x60000001 ∷ 0x50000000 ∷ 0x6FFFFFFF ∷ 0x50000002 ∷ 0x60000003 ∷ 0x6FFFFFFE ∷ 0xF0000000 ∷ []) ∷
    denies T3 (pos 2 ∷ pos 2 ∷ []) 0 ∷
    denies T5 (negsuc 2 ∷ negsuc 2 ∷ []) 0 ∷
    fills T5 (negsuc 2 ∷ pos 3 ∷ []) (pos 1 ∷ negsuc 2 ∷ []) ∷
    fills_only T6 (pos 1 ∷ []) (pos 1 ∷ pos 0 ∷ pos 0 ∷ []) ∷
    denies T7 (pos 3 ∷ pos 3 ∷ pos 0 ∷ []) 0 ∷
    fills_only T8 (negsuc 2 ∷ negsuc 2 ∷ negsuc 2 ∷ []) (pos 1 ∷ pos 0 ∷ negsuc 2 ∷ pos 0 ∷ []) ∷
    refuses (T9 0x10000000 0x27FFFFFF) 13 5 ∷
    refuses (T9 0x1FFFFFFF 0x27FFFFFF) 13 5 ∷
    accepts (T9 0x10000000 0x27FFFFFE) 0x68000001 ∷
    never T10 ∷
    accepts (T11 0x2000003F) 0xF0000000 ∷
    refuses (T11 0x20000040) 12 3 ∷
    never T12 ∷
    fills switches (pos 1 ∷ pos 1 ∷ pos 1 ∷ []) (pos 1 ∷ []) ∷
    fills switches (pos 0 ∷ pos 1 ∷ pos 0 ∷ []) (pos 0 ∷ []) ∷
    denies switches (pos 1 ∷ pos 0 ∷ pos 1 ∷ []) 0 ∷
    denies switches (pos 0 ∷ pos 0 ∷ pos 0 ∷ []) 0 ∷
    fills four_switches (pos 1 ∷ pos 1 ∷ pos 0 ∷ pos 1 ∷ []) (pos 1 ∷ []) ∷
    denies four_switches (pos 1 ∷ pos 1 ∷ pos 1 ∷ pos 1 ∷ []) 0 ∷
    translates no_switches (0x80000000 ∷ 0x90000000 ∷ 0xB0000001 ∷ 0x50000000 ∷ 0x6FFFFFFE ∷ 0x6FFFFFFF ∷ 0xF0000000 ∷ []) ∷
    never no_switches ∷
    refuses (0x10000000 ∷ 0x28000000 ∷ []) 18 1 ∷
    refuses (booleans 256 ++ (0x18000000 ∷ [])) 18 256 ∷
    refuses (0x40000017 ∷ 0x68000000 ∷ []) 18 1 ∷
    refuses_rows (booleans 4096 ++ (0x88000000 ∷ [])) 18 4096 ∷
    fills of29 (negsuc 2 ∷ pos 3 ∷ negsuc 2 ∷ []) (pos 0 ∷ []) ∷
    fills of29 (pos 3 ∷ negsuc 2 ∷ negsuc 2 ∷ []) (pos 1 ∷ []) ∷
    denies of29 (pos 3 ∷ negsuc 2 ∷ pos 3 ∷ []) 0 ∷
    denies of30 (pos 3 ∷ pos 3 ∷ pos 1 ∷ []) 0 ∷
    fills of30 (negsuc 2 ∷ pos 3 ∷ pos 1 ∷ []) [] ∷
    denies of31 (pos 3 ∷ pos 3 ∷ pos 1 ∷ []) 0 ∷
    fills_only of31 (pos 3 ∷ pos 3 ∷ pos 0 ∷ []) (pos 0 ∷ pos 0 ∷ pos 0 ∷ []) ∷
    denies of32 (pos 0 ∷ pos 1 ∷ []) 0 ∷
    fills of32 (negsuc 4 ∷ pos 1 ∷ []) (negsuc 4 ∷ pos 1 ∷ negsuc 4 ∷ []) ∷
    fills_only of33 (negsuc 2 ∷ negsuc 2 ∷ negsuc 2 ∷ []) (pos 1 ∷ pos 0 ∷ negsuc 2 ∷ pos 0 ∷ []) ∷
    denies of33 (negsuc 1 ∷ negsuc 2 ∷ negsuc 1 ∷ []) 0 ∷
    never none_of33 ∷
    fills (of_bits 0x40000022) (pos 1 ∷ pos 1 ∷ pos 1 ∷ []) (pos 1 ∷ pos 1 ∷ []) ∷
    denies (of_bits 0x40000022) (pos 0 ∷ pos 0 ∷ pos 0 ∷ []) 0 ∷
    denies (of_bits 0x40000023) (pos 0 ∷ pos 0 ∷ pos 0 ∷ []) 0 ∷
    denies (of_bits 0x40000023) (pos 1 ∷ pos 0 ∷ pos 1 ∷ []) 0 ∷
    denies (of_bits 0x40000024) (pos 1 ∷ pos 1 ∷ pos 1 ∷ []) 0 ∷
    denies (of_bits 0x40000024) (pos 0 ∷ pos 1 ∷ pos 0 ∷ []) 0 ∷
    fills of37 (pos 0 ∷ pos 2 ∷ pos 0 ∷ []) (pos 1 ∷ pos 1 ∷ pos 0 ∷ pos 1 ∷ []) ∷
    fills of37 (pos 0 ∷ negsuc 1 ∷ pos 0 ∷ []) (pos 1 ∷ pos 0 ∷ pos 0 ∷ pos 0 ∷ []) ∷
    fills of37 (pos 3 ∷ pos 2 ∷ pos 1 ∷ []) (pos 1 ∷ pos 1 ∷ pos 2 ∷ pos 1 ∷ []) ∷
    fills of37 (pos 3 ∷ negsuc 1 ∷ negsuc 0 ∷ []) (pos 1 ∷ pos 0 ∷ pos 2 ∷ pos 0 ∷ []) ∷
    fills of37 (negsuc 2 ∷ pos 2 ∷ negsuc 0 ∷ []) (pos 0 ∷ pos 1 ∷ negsuc 1 ∷ pos 0 ∷ []) ∷
    fills of37 (negsuc 2 ∷ negsuc 1 ∷ pos 1 ∷ []) (pos 0 ∷ pos 0 ∷ negsuc 1 ∷ pos 0 ∷ []) ∷
    denies of37 (negsuc 2 ∷ pos 2 ∷ negsuc 1 ∷ []) 0 ∷
    denies of37 (pos 0 ∷ pos 0 ∷ pos 0 ∷ []) 0 ∷
    fills of38 (pos 0 ∷ pos 2 ∷ pos 0 ∷ []) (pos 0 ∷ pos 1 ∷ pos 1 ∷ pos 0 ∷ pos 1 ∷ []) ∷
    fills of38 (pos 0 ∷ negsuc 1 ∷ pos 0 ∷ []) (pos 0 ∷ pos 1 ∷ pos 0 ∷ pos 0 ∷ pos 0 ∷ []) ∷
    fills of38 (pos 3 ∷ pos 2 ∷ pos 1 ∷ []) (pos 1 ∷ pos 1 ∷ pos 1 ∷ pos 2 ∷ pos 1 ∷ []) ∷
    fills of38 (pos 3 ∷ negsuc 1 ∷ pos 1 ∷ []) (negsuc 0 ∷ pos 1 ∷ pos 0 ∷ pos 2 ∷ pos 0 ∷ []) ∷
    fills of38 (negsuc 2 ∷ pos 2 ∷ negsuc 0 ∷ []) (negsuc 0 ∷ pos 0 ∷ pos 1 ∷ negsuc 1 ∷ pos 0 ∷ []) ∷
    fills of38 (negsuc 2 ∷ negsuc 1 ∷ negsuc 0 ∷ []) (pos 1 ∷ pos 0 ∷ pos 0 ∷ negsuc 1 ∷ pos 0 ∷ []) ∷
    denies of38 (negsuc 2 ∷ pos 2 ∷ pos 1 ∷ []) 0 ∷
    denies of38 (pos 0 ∷ pos 0 ∷ pos 0 ∷ []) 0 ∷
    fills (of39 0x1FFFFFFD 0x20000003 0x60000000) (pos 0 ∷ pos 1 ∷ []) [] ∷
    denies (of39 0x1FFFFFFD 0x20000003 0x60000000) (pos 0 ∷ pos 0 ∷ []) 0 ∷
    fills (of39 0x1FFFFFFD 0x20000003 0x60000001) (negsuc 2 ∷ negsuc 2 ∷ []) [] ∷
    fills (of39 0x1FFFFFFD 0x20000003 0x60000003) (negsuc 2 ∷ negsuc 26 ∷ []) (pos 9 ∷ negsuc 26 ∷ []) ∷
    denies (of39 0x1FFFFFFD 0x20000003 0x60000003) (negsuc 2 ∷ pos 27 ∷ []) 0 ∷
    fills (of39 0x1FFFFFFF 0x20000001 0x6000001B) (negsuc 0 ∷ negsuc 0 ∷ []) (pos 1 ∷ negsuc 0 ∷ pos 1 ∷ pos 1 ∷ negsuc 0 ∷ pos 1 ∷ negsuc 0 ∷ []) ∷
    fills (of39 0x1FFFFFFF 0x20000001 0x6000001B) (pos 0 ∷ pos 0 ∷ []) (pos 0 ∷ pos 0 ∷ pos 0 ∷ pos 0 ∷ pos 0 ∷ pos 0 ∷ pos 0 ∷ []) ∷
    fills (of39 0x1FFFFFFF 0x20000001 0x6000001B) (pos 1 ∷ pos 1 ∷ []) (pos 1 ∷ pos 1 ∷ pos 1 ∷ pos 1 ∷ pos 1 ∷ pos 1 ∷ pos 1 ∷ []) ∷
    denies (of39 0x1FFFFFFF 0x20000001 0x6000001B) (negsuc 0 ∷ pos 1 ∷ []) 0 ∷
    fills_only T5 (pos 0 ∷ pos 0 ∷ []) (pos 0 ∷ pos 0 ∷ []) ∷
    fills_only T7 (pos 3 ∷ pos 3 ∷ pos 1 ∷ []) (pos 0 ∷ pos 0 ∷ pos 0 ∷ []) ∷
    fills_only of9 (pos 3 ∷ pos 3 ∷ pos 3 ∷ []) (pos 0 ∷ []) ∷
    fills_only of29 (pos 2 ∷ pos 2 ∷ pos 2 ∷ []) (pos 0 ∷ []) ∷
    fills_only (of_two 0x4000001A 0x1FFFFFFE 0x20000000) (negsuc 1 ∷ negsuc 1 ∷ negsuc 1 ∷ []) (pos 1 ∷ pos 0 ∷ negsuc 1 ∷ pos 0 ∷ []) ∷
    fills_only (of_two 0x40000021 0x1FFFFFFA 0x2FFFFFFC) (negsuc 3 ∷ negsuc 3 ∷ negsuc 3 ∷ []) (pos 1 ∷ pos 0 ∷ negsuc 3 ∷ pos 0 ∷ []) ∷
    translates out_at_first
    (0x10000000 ∷ 0x20000002 ∷ 0x10000005 ∷ 0x20000006 ∷ 0x80000000 ∷ 0x90000001 ∷ 0x80000000 ∷ 0x90000001 ∷ 0x80000000 ∷ 0x90000001 ∷
    0xB0000003 ∷ 0x50000002 ∷ 0x60000001 ∷ 0x50000003 ∷ 0x60000001 ∷ 0x50000004 ∷ 0x60000001 ∷ 0x6FFFFFFF ∷
    0xB0000004 ∷ 0x50000002 ∷ 0x60000000 ∷ 0x50000003 ∷ 0x60000001 ∷ 0x50000004 ∷ 0x60000002 ∷ 0x50000000 ∷ 0x6FFFFFFF ∷ 0x60000000 ∷
    0xB0000001 ∷ 0x50000002 ∷ 0x60000001 ∷ 0x60000000 ∷
    0xB0000003 ∷ 0x50000003 ∷ 0x60000005 ∷ 0x50000004 ∷ 0x60000006 ∷ 0x50000001 ∷ 0x6FFFFFFF ∷ 0x60000000 ∷ 0xF0000000 ∷ []) ∷
    fills_only out_at_first (pos 1 ∷ pos 5 ∷ []) (pos 0 ∷ pos 1 ∷ pos 0 ∷ []) ∷
    denies out_at_first (pos 0 ∷ pos 5 ∷ []) 0 ∷
    translates out_at_later
    (0x10000001 ∷ 0x20000002 ∷ 0x10000005 ∷ 0x20000006 ∷ 0x80000000 ∷ 0x90000001 ∷ 0x80000000 ∷ 0x90000001 ∷
    0xB0000002 ∷ 0x50000002 ∷ 0x60000001 ∷ 0x50000003 ∷ 0x60000001 ∷ 0x6FFFFFFF ∷
    0xB0000003 ∷ 0x50000002 ∷ 0x60000001 ∷ 0x50000003 ∷ 0x60000002 ∷ 0x50000000 ∷ 0x6FFFFFFF ∷ 0x60000000 ∷
    0xB0000003 ∷ 0x50000002 ∷ 0x60000005 ∷ 0x50000003 ∷ 0x60000006 ∷ 0x50000001 ∷ 0x6FFFFFFF ∷ 0x60000000 ∷
    0xB0000001 ∷ 0x50000003 ∷ 0x60000001 ∷ 0x60000000 ∷ 0xF0000000 ∷ []) ∷
    fills_only out_at_later (pos 1 ∷ pos 5 ∷ []) (pos 1 ∷ pos 0 ∷ []) ∷
    denies out_at_later (pos 2 ∷ pos 6 ∷ []) 1 ∷
    fills_only shared28and25 (pos 1 ∷ negsuc 2 ∷ negsuc 2 ∷ pos 1 ∷ []) (pos 0 ∷ pos 1 ∷ negsuc 2 ∷ []) ∷
    denies shared28and25 (pos 0 ∷ pos 0 ∷ pos 0 ∷ pos 0 ∷ []) 1 ∷
    accepts (twice27 0x2000003F) 0xF0000000 ∷
    refuses (twice27 0x20000040) 12 2 ∷
    []

pub table-T : all is_true table ≡ true
unfolding same_list is_same_answer lists_within is_accepted completions is_denied unused_words unused_values is_filled is_true T3 of_two T5 T6 T7 T8 T9 T10 T11 T12 switches four_switches no_switches booleans three of29 of30 of31 of32 of33 none_of33 of_bits of37 of38 of39 of9 shared24and27 out_at_first out_at_later shared28and25 twice27 table within width values
    bounds_in list_of all any how_many ◌⊕◌ ◌⊖◌ ◌⊗◌ neg min_z max_z abs_z ◌≟◌ count value sum ◌else_answer◌ is_holds first_false first_out_of_bounds judge
    overlay ◌else_refuse◌ first_fault count_fault starts_pair variables kind payload signed word complement number_word word_at
    JudgeModel.judge_accepted JudgeRows.judge_accepted judge_model on off element maximum minimum member odd quotient remainder power meaning constraints_from constraints var num size exponent_at vars
    nums past terms past_terms builtins builtin too_low Model.fault_head Model.fault_start_in Model.fault_upper_in Rows.fault_upper fault_number_in
    Model.fault_variable Rows.fault_variable Model.fault_count_in Model.fault_argument_in Model.fault_due_in Rows.fault_due Model.fault_in Rows.fault Model.after_head
    Model.after_argument Model.after_due Rows.after_due Model.declared Model.started Rows.started Model.after Rows.after Model.fault_end Rows.fault_end
    Model.ended Rows.ended read_model_in shapes argument judge_rows Rows.fault_lower Rows.fault_item Rows.fault_source Rows.not_above Rows.fault_result Rows.after_item read_rows
    satisfied rename_terms rename term_count variable_at number_at terms_in constant_in rows bound_words term_words sum_words row_words bound_numbers row_numbers
    numbered block_words block_numbers outside_in too_wide block_fault_in blocks_fault_in check_fault_in check_in filled_count fill_fault_in fill_in filled_in Z end_products extreme L
    U half_less ◌─◌≤0 ◌─◌=0 sources each bits weighted one_bit chosen products nth places least_from rising members bit_of sign_pick signed_pick first_bit gated_pick
    division_pick left_over_pick power_pick pick by_halves next no_product squared multiplied chain next_value no_value squared_value multiplied_value power_values M division_table table_row division_rows quotient_bounds remainder_row Rule.linked Rule.sign_split Rule.where_one Rule.where_zero Rule.order_reified Rule.only_negative Rule.absolute Rule.touching Rule.lin_not_equal Rule.zero_rows
    Rule.zero_reified Rule.lin_less_equal_reified Rule.same_rows Rule.same_reified Rule.number_element Rule.variable_element Rule.first_only Rule.one_of Rule.in_set Rule.in_set_reified Rule.division Rule.left_over Rule.powered rule room_fault
    translate_fault_in translate_in translated_in choice encodes shared_in shares encoded_after bit_products value_bit new_bits new_rows kept left_out kept_sum shared_rule rule_after new_pick shared_pick pick_after
    bounds shared block_of each_block source_words blocks_words system_words auxiliaries block_rows picks flat_map zip_with
table-T = refl
