-- The words of a system of builtins: its variables, its constraints, the end.
use Rattle.std.specs.Prelude.{Bool, true, false, List, [], ◌∷◌, ◌++◌, map, ℕ, length}
use Rattle.integers.specs.declared.Bounds.{Bounds}
use Rattle.integers.specs.Terms.{Term}
use Rattle.words.specs.Word.{word, number_word}
use Rattle.words.specs.Kind as Kind
use Rattle.models.specs.Table.{Sort, integer, boolean, number, exponent, numbers, set, integers, booleans, parallel, Argument}
use Rattle.models.specs.Builtin.{Builtin, int_eq, int_le, int_lt, int_ne, int_le_reif, int_plus, int_times, int_abs, int_max, int_lin_eq, int_lin_le, int_lin_ne, int_lin_eq_reif, int_eq_reif, int_lin_le_reif, bool2int, bool_not, bool_and, bool_or, bool_xor, bool_clause, array_bool_and, array_bool_xor, array_int_element, array_var_int_element, array_int_maximum, set_in, set_in_reif, int_min, int_lt_reif, int_ne_reif, int_lin_ne_reif, array_int_minimum, bool_eq_reif, bool_le_reif, bool_lt_reif, int_div, int_mod, int_pow}
use Rattle.flatzinc.specs.declared.ModelVariable.{ModelVariable}
use Rattle.models.proofs.Arguments.{Given, arguments_of}

unfoldable pub variable_words : Bool → Bounds → List ℕ
variable_words true B = word Kind.boolean 0 ∷ []
variable_words false B = number_word Kind.lower B.lower ∷ number_word Kind.upper B.upper ∷ []

unfoldable pub argument_words : (s : Sort) → Argument s → List ℕ
argument_words integer v = word Kind.variable v ∷ []
argument_words boolean v = word Kind.variable v ∷ []
argument_words number n = number_word Kind.number n ∷ []
argument_words exponent k = word Kind.number k ∷ []
argument_words numbers ns = word Kind.number (length ns) ∷ map (number_word Kind.number) ns
argument_words set ns = word Kind.number (length ns) ∷ map (number_word Kind.number) ns
argument_words integers vs = word Kind.number (length vs) ∷ map (word Kind.variable) vs
argument_words booleans vs = word Kind.number (length vs) ∷ map (word Kind.variable) vs
argument_words parallel ts =
    word Kind.number (length ts) ∷ (map (λ (t : Term ℕ). number_word Kind.number t.coefficient) ts ++ map (λ (t : Term ℕ). word Kind.variable t.variable) ts)

unfoldable pub given_words : List Given → List ℕ
given_words [] = []
given_words (g ∷ gs) = argument_words g.sort g.is ++ given_words gs

unfoldable pub code_of : Builtin → ℕ
code_of (int_eq a b) = 1
code_of (int_le a b) = 2
code_of (int_lt a b) = 3
code_of (int_ne a b) = 4
code_of (int_le_reif a b r) = 5
code_of (int_plus a b c) = 6
code_of (int_times a b c) = 7
code_of (int_abs x y) = 8
code_of (int_max a b c) = 9
code_of (int_lin_eq asbs c) = 10
code_of (int_lin_le asbs c) = 11
code_of (int_lin_ne asbs c) = 12
code_of (int_lin_eq_reif asbs c r) = 13
code_of (int_eq_reif a b r) = 14
code_of (int_lin_le_reif asbs c r) = 15
code_of (bool2int a b) = 16
code_of (bool_not a b) = 17
code_of (bool_and a b r) = 18
code_of (bool_or a b r) = 19
code_of (bool_xor a b r) = 20
code_of (bool_clause xs ys) = 21
code_of (array_bool_and xs r) = 22
code_of (array_bool_xor xs) = 23
code_of (array_int_element i ns c) = 24
code_of (array_var_int_element i xs c) = 25
code_of (array_int_maximum m xs) = 26
code_of (set_in x S) = 27
code_of (set_in_reif x S r) = 28
code_of (int_min a b c) = 29
code_of (int_lt_reif a b r) = 30
code_of (int_ne_reif a b r) = 31
code_of (int_lin_ne_reif asbs c r) = 32
code_of (array_int_minimum m xs) = 33
code_of (bool_eq_reif a b r) = 34
code_of (bool_le_reif a b r) = 35
code_of (bool_lt_reif a b r) = 36
code_of (int_div n d q) = 37
code_of (int_mod n d r) = 38
code_of (int_pow x k z) = 39

unfoldable pub constraint_words : Builtin → List ℕ
constraint_words b = word Kind.constraint (code_of b) ∷ given_words (arguments_of b)

unfoldable pub all_variable_words : List ModelVariable → List ℕ
all_variable_words [] = []
all_variable_words (v ∷ vs) = variable_words v.is_boolean v.bounds ++ all_variable_words vs

unfoldable pub all_constraint_words : List Builtin → List ℕ
all_constraint_words [] = word Kind.model_end 0 ∷ []
all_constraint_words (b ∷ bs) = constraint_words b ++ all_constraint_words bs

unfoldable pub words_of : List ModelVariable → List Builtin → List ℕ
words_of vs bs = all_variable_words vs ++ all_constraint_words bs
