-- The numbers of the faults, each named once. 0 is no fault.
use Rattle.std.specs.Prelude.{ℕ}

abbrev pub none : ℕ
none = 0

-- "More than 8,192 model words, or 131,072 row words"; 02, wish 10: "the limit on row words rises to 262,144"; wish 8: "then 1 above 8,192 words"
abbrev pub too_many_words : ℕ
too_many_words = 1

-- "The words end too early"
abbrev pub words_end : ℕ
words_end = 2

-- "A word's kind does not belong there."
abbrev pub wrong_kind : ℕ
wrong_kind = 3

-- "An upper bound is below its lower one."
abbrev pub upper_below_lower : ℕ
upper_below_lower = 4

-- "A kind 3, C or end word has a payload above 0."
abbrev pub payload_above_zero : ℕ
payload_above_zero = 5

-- "A 257th variable starts in a model."
abbrev pub too_many_variables : ℕ
too_many_variables = 6

-- "A 257th constraint starts."
abbrev pub too_many_constraints : ℕ
too_many_constraints = 7

-- "The code is unknown."
abbrev pub unknown_code : ℕ
unknown_code = 8

-- "A list length is outside 0 to 32, or a term number above 66."; 02, wish 13: "A k outside its limits is fault 9."
abbrev pub length_outside : ℕ
length_outside = 9

-- "A variable number is not declared so far, or in a model has the wrong type."
abbrev pub not_declared : ℕ
not_declared = 10

-- "A word follows the end word"
abbrev pub word_after_end : ℕ
word_after_end = 11

-- "A code 28 needs more than 64 auxiliaries."; 02, wish 7: "also comes when a shared list needs more than 64 auxiliaries"
abbrev pub set_too_wide : ℕ
set_too_wide = 12

-- "A coefficient, constant or auxiliary bound is outside the range."
abbrev pub number_outside : ℕ
number_outside = 13

-- "Variables and auxiliaries pass 4,096"
abbrev pub too_many_in_all : ℕ
too_many_in_all = 14

-- "The number of values is not that of the variables"
abbrev pub wrong_value_count : ℕ
wrong_value_count = 15

-- "The lent output is too short"
abbrev pub output_too_short : ℕ
output_too_short = 16

-- "A product's result number is not above both factors'"
abbrev pub result_not_above : ℕ
result_not_above = 17

-- 02, wish 2: "when a signed payload, a list length too, is the lowest 28-bit number, checked directly after 3"
abbrev pub lowest_number : ℕ
lowest_number = 18

-- 02, wish 8: "when the text breaks the grammar"
abbrev pub breaks_grammar : ℕ
breaks_grammar = 19

-- "when a variable or builtin name is unknown or a variable is declared twice"
abbrev pub wrong_name : ℕ
wrong_name = 20

-- "when a number is outside the range"
abbrev pub outside_range : ℕ
outside_range = 21

-- 02, wish 11: "when the model passes either limit"
abbrev pub too_many_lists : ℕ
too_many_lists = 22

-- 02, wish 14: "when more than 1,024 bits are needed"
abbrev pub too_many_bits : ℕ
too_many_bits = 23

-- "when a row over bits, like bits added, has a coefficient or constant beyond plus or minus 16,384, or an entry or the form's constant is outside the range"
abbrev pub form_too_large : ℕ
form_too_large = 24

-- a bit is neither 0 nor 1
abbrev pub not_a_bit : ℕ
not_a_bit = 25

-- there is no such variable, or no such direction
abbrev pub no_such_variable : ℕ
no_such_variable = 26
