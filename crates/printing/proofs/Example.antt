-- A text as it is printed: numbers, names, lists, empty lists and sets.
use Rattle.std.proofs.Common.{◌≡◌, refl, List, [], ◌∷◌, ◌++◌, ℕ}
use mathlib.Core.List.{flat_map}
use Rattle.integers.specs.Lists.{list_of, any}
use Rattle.words.specs.Word.{kind, payload, signed, word}
use Rattle.decimals.specs.Decimal.{last_digits, decimal, numeral}
use Rattle.models.specs.Shape.{shapes, argument}
use Rattle.models.specs.Reading.{after, after_due, after_head, after_argument, declared, started}
use Rattle.tokens.specs.Byte.{bytes}
use Rattle.names.specs.Name.{builtin_names}
use Rattle.grammar.specs.Form.{argument_forms, in_text}
use Rattle.printing.specs.ModelText.{variable_name, builtin_name, bracket, takes_set, opened, closed, argument_end, numbers_end, variables_end, argument_text, head_text, word_text, text_from, model_text}

ws : List ℕ
ws = word 1 268435453 ∷ word 2 3 ∷ word 3 0 ∷ word 1 0 ∷ word 2 12 ∷
    word 4 10 ∷ word 6 2 ∷ word 6 1 ∷ word 6 268435454 ∷ word 5 0 ∷ word 5 2 ∷ word 6 3 ∷
    word 4 15 ∷ word 6 0 ∷ word 6 3 ∷ word 5 1 ∷
    word 4 28 ∷ word 5 0 ∷ word 6 2 ∷ word 6 5 ∷ word 6 7 ∷ word 5 1 ∷
    word 4 27 ∷ word 5 0 ∷ word 6 0 ∷
    word 4 39 ∷ word 5 0 ∷ word 6 2 ∷ word 5 2 ∷
    word 4 23 ∷ word 6 1 ∷ word 5 1 ∷
    word 4 21 ∷ word 6 0 ∷ word 6 1 ∷ word 5 1 ∷
    word 7 0 ∷ []

test : model_text ws ≡ bytes "var -3..3: x0;" ++ (10 ∷ bytes "var bool: x1;" ++ (10 ∷ bytes "var 0..12: x2;" ++ (10 ∷ bytes "constraint int_lin_eq([1,-2],[x0,x2],3);" ++ (10 ∷ bytes "constraint int_lin_le_reif([],[],3,x1);" ++ (10 ∷ bytes "constraint set_in_reif(x0,{5,7},x1);" ++ (10 ∷ bytes "constraint set_in(x0,{});" ++ (10 ∷ bytes "constraint int_pow(x0,2,x2);" ++ (10 ∷ bytes "constraint array_bool_xor([x1]);" ++ (10 ∷ bytes "constraint bool_clause([],[x1]);" ++ (10 ∷ bytes "solve satisfy;" ++ (10 ∷ [])))))))))))
unfolding ws bytes list_of any kind payload signed word last_digits decimal numeral shapes argument after after_due after_head after_argument declared started builtin_names argument_forms in_text flat_map variable_name builtin_name bracket takes_set opened closed argument_end numbers_end variables_end argument_text head_text word_text text_from model_text
test = refl
