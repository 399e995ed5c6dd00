-- The arguments of a builtin with their sorts; the variables that they name, the integer ones and the Boolean ones; how many words they take.
use Rattle.std.proofs.Common.{Bool, true, false, not, ◌&&◌, List, [], ◌∷◌, ◌++◌, ℕ, ◌+◌, ◌*◌, eqb, length}
use Rattle.integers.specs.Choice.{◌if◌else◌}
use Rattle.integers.specs.Terms.{Term}
use Rattle.models.specs.Table.{Sort, integer, boolean, number, exponent, numbers, set, integers, booleans, parallel, Argument}
use Rattle.models.specs.Shape as Shape
use Rattle.models.specs.Builtin.{Builtin, int_eq, int_le, int_lt, int_ne, int_le_reif, int_plus, int_times, int_abs, int_max, int_lin_eq, int_lin_le, int_lin_ne, int_lin_eq_reif, int_eq_reif, int_lin_le_reif, bool2int, bool_not, bool_and, bool_or, bool_xor, bool_clause, array_bool_and, array_bool_xor, array_int_element, array_var_int_element, array_int_maximum, set_in, set_in_reif, int_min, int_lt_reif, int_ne_reif, int_lin_ne_reif, array_int_minimum, bool_eq_reif, bool_le_reif, bool_lt_reif, int_div, int_mod, int_pow}

-- an argument and its sort
pub record Given : Type 0 where
  pub sort : Sort
  pub is : Argument sort

infix 90 ◌!◌
abbrev pub ◌!◌ : (s : Sort) → Argument s → Given
s ! a = record { sort = s; is = a }

abbrev pub arguments_of : Builtin → List Given
arguments_of (int_eq a b) = integer ! a ∷ integer ! b ∷ []
arguments_of (int_le a b) = integer ! a ∷ integer ! b ∷ []
arguments_of (int_lt a b) = integer ! a ∷ integer ! b ∷ []
arguments_of (int_ne a b) = integer ! a ∷ integer ! b ∷ []
arguments_of (int_le_reif a b r) = integer ! a ∷ integer ! b ∷ boolean ! r ∷ []
arguments_of (int_plus a b c) = integer ! a ∷ integer ! b ∷ integer ! c ∷ []
arguments_of (int_times a b c) = integer ! a ∷ integer ! b ∷ integer ! c ∷ []
arguments_of (int_abs x y) = integer ! x ∷ integer ! y ∷ []
arguments_of (int_max a b c) = integer ! a ∷ integer ! b ∷ integer ! c ∷ []
arguments_of (int_lin_eq asbs c) = parallel ! asbs ∷ number ! c ∷ []
arguments_of (int_lin_le asbs c) = parallel ! asbs ∷ number ! c ∷ []
arguments_of (int_lin_ne asbs c) = parallel ! asbs ∷ number ! c ∷ []
arguments_of (int_lin_eq_reif asbs c r) = parallel ! asbs ∷ number ! c ∷ boolean ! r ∷ []
arguments_of (int_eq_reif a b r) = integer ! a ∷ integer ! b ∷ boolean ! r ∷ []
arguments_of (int_lin_le_reif asbs c r) = parallel ! asbs ∷ number ! c ∷ boolean ! r ∷ []
arguments_of (bool2int a b) = boolean ! a ∷ integer ! b ∷ []
arguments_of (bool_not a b) = boolean ! a ∷ boolean ! b ∷ []
arguments_of (bool_and a b r) = boolean ! a ∷ boolean ! b ∷ boolean ! r ∷ []
arguments_of (bool_or a b r) = boolean ! a ∷ boolean ! b ∷ boolean ! r ∷ []
arguments_of (bool_xor a b r) = boolean ! a ∷ boolean ! b ∷ boolean ! r ∷ []
arguments_of (bool_clause xs ys) = booleans ! xs ∷ booleans ! ys ∷ []
arguments_of (array_bool_and xs r) = booleans ! xs ∷ boolean ! r ∷ []
arguments_of (array_bool_xor xs) = booleans ! xs ∷ []
arguments_of (array_int_element i ns c) = integer ! i ∷ numbers ! ns ∷ integer ! c ∷ []
arguments_of (array_var_int_element i xs c) = integer ! i ∷ integers ! xs ∷ integer ! c ∷ []
arguments_of (array_int_maximum m xs) = integer ! m ∷ integers ! xs ∷ []
arguments_of (set_in x S) = integer ! x ∷ set ! S ∷ []
arguments_of (set_in_reif x S r) = integer ! x ∷ set ! S ∷ boolean ! r ∷ []
arguments_of (int_min a b c) = integer ! a ∷ integer ! b ∷ integer ! c ∷ []
arguments_of (int_lt_reif a b r) = integer ! a ∷ integer ! b ∷ boolean ! r ∷ []
arguments_of (int_ne_reif a b r) = integer ! a ∷ integer ! b ∷ boolean ! r ∷ []
arguments_of (int_lin_ne_reif asbs c r) = parallel ! asbs ∷ number ! c ∷ boolean ! r ∷ []
arguments_of (array_int_minimum m xs) = integer ! m ∷ integers ! xs ∷ []
arguments_of (bool_eq_reif a b r) = boolean ! a ∷ boolean ! b ∷ boolean ! r ∷ []
arguments_of (bool_le_reif a b r) = boolean ! a ∷ boolean ! b ∷ boolean ! r ∷ []
arguments_of (bool_lt_reif a b r) = boolean ! a ∷ boolean ! b ∷ boolean ! r ∷ []
arguments_of (int_div n d q) = integer ! n ∷ integer ! d ∷ integer ! q ∷ []
arguments_of (int_mod n d r) = integer ! n ∷ integer ! d ∷ integer ! r ∷ []
arguments_of (int_pow x k z) = integer ! x ∷ exponent ! k ∷ integer ! z ∷ []

-- ---- of one argument: its variables, their type, whether it is a list, its words

abbrev pub variables_in : List (Term ℕ) → List ℕ
variables_in [] = []
variables_in (t ∷ ts) = t.variable ∷ variables_in ts

abbrev pub named_in : (s : Sort) → Argument s → List ℕ
named_in integer v = v ∷ []
named_in boolean v = v ∷ []
named_in number c = []
named_in exponent k = []
named_in numbers ns = []
named_in set ns = []
named_in integers vs = vs
named_in booleans vs = vs
named_in parallel ts = variables_in ts

abbrev pub type_of : Sort → ℕ
type_of integer = Shape.integer
type_of boolean = Shape.boolean
type_of number = Shape.none
type_of exponent = Shape.none
type_of numbers = Shape.none
type_of set = Shape.none
type_of integers = Shape.integer
type_of booleans = Shape.boolean
type_of parallel = Shape.integer

abbrev pub is_list : Sort → Bool
is_list integer = false
is_list boolean = false
is_list number = false
is_list exponent = false
is_list numbers = true
is_list set = true
is_list integers = true
is_list booleans = true
is_list parallel = true

abbrev pub words_in : (s : Sort) → Argument s → ℕ
words_in integer v = 1
words_in boolean v = 1
words_in number c = 1
words_in exponent k = 1
words_in numbers ns = 1 + length ns
words_in set ns = 1 + length ns
words_in integers vs = 1 + length vs
words_in booleans vs = 1 + length vs
words_in parallel ts = 1 + 2 * length ts

-- ---- of all arguments

-- the variables of a type: those that stand alone, then those of the lists
abbrev pub alone : ℕ → List Given → List ℕ
alone t [] = []
alone t (a ∷ gs) = (named_in a.sort a.is if eqb (type_of a.sort) t && not (is_list a.sort) else []) ++ alone t gs

abbrev pub lists : ℕ → List Given → List (List ℕ)
lists t [] = []
lists t (a ∷ gs) = (named_in a.sort a.is ∷ [] if eqb (type_of a.sort) t && is_list a.sort else []) ++ lists t gs

-- one after another; a single list as it is
abbrev pub joined : List (List ℕ) → List ℕ
joined [] = []
joined (xs ∷ []) = xs
joined (xs ∷ ys ∷ zss) = xs ++ joined (ys ∷ zss)

abbrev pub variables_of : ℕ → List Given → List ℕ
variables_of t gs = alone t gs ++ joined (lists t gs)

unfoldable pub integer_arguments : Builtin → List ℕ
integer_arguments b = variables_of Shape.integer (arguments_of b)

unfoldable pub boolean_arguments : Builtin → List ℕ
boolean_arguments b = variables_of Shape.boolean (arguments_of b)

abbrev pub words_of : List Given → ℕ
words_of [] = 0
words_of (a ∷ gs) = words_in a.sort a.is + words_of gs

unfoldable pub builtin_words : Builtin → ℕ
builtin_words b = words_of (arguments_of b)
