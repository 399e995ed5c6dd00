-- 01, Rules of the 28 codes, and 02, wishes 1, 6 and 13: one row a code, its name, the sorts of its arguments and its builtin.
-- "Arguments of bool_ and array_bool_ builtins, a of 16 and every named r are Boolean; all other variables integer."
use Rattle.std.specs.Prelude.{List, [], ◌∷◌, ℕ, ℤ, length}
use Prim.Native.String.{String}
use Rattle.integers.specs.Terms.{Term}
use Rattle.models.specs.Builtin as B
use Rattle.models.specs.Builtin.{Builtin}

-- a variable of a type, a number, the exponent of a power, a list or a set with its length word, parallel lists of numbers and variables
pub data Sort : Type 0 where
  integer boolean number exponent numbers set integers booleans parallel : Sort

-- what an argument of a sort is
abbrev pub Argument : Sort → Type 0
Argument integer = ℕ
Argument boolean = ℕ
Argument number = ℤ
Argument exponent = ℕ
Argument numbers = List ℤ
Argument set = List ℤ
Argument integers = List ℕ
Argument booleans = List ℕ
Argument parallel = List (Term ℕ)

-- a builtin of arguments of these sorts
abbrev pub Takes : List Sort → Type 0
Takes [] = Builtin
Takes (s ∷ ss) = Argument s → Takes ss

pub record Code : Type 0 where
  pub name : String
  pub sorts : List Sort
  pub make : Takes sorts

abbrev pub takes : String → (ss : List Sort) → Takes ss → Code
takes n ss f = record { name = n; sorts = ss; make = f }

-- "Codes run from 1 to 28 without a gap."; 02: "codes 29 to 36", "codes 37 and 38", "code 39"
abbrev pub codes : List Code
codes =
    -- 1 to 9
    takes "int_eq" (integer ∷ integer ∷ []) B.int_eq ∷
    takes "int_le" (integer ∷ integer ∷ []) B.int_le ∷
    takes "int_lt" (integer ∷ integer ∷ []) B.int_lt ∷
    takes "int_ne" (integer ∷ integer ∷ []) B.int_ne ∷
    takes "int_le_reif" (integer ∷ integer ∷ boolean ∷ []) B.int_le_reif ∷
    takes "int_plus" (integer ∷ integer ∷ integer ∷ []) B.int_plus ∷
    takes "int_times" (integer ∷ integer ∷ integer ∷ []) B.int_times ∷
    takes "int_abs" (integer ∷ integer ∷ []) B.int_abs ∷
    takes "int_max" (integer ∷ integer ∷ integer ∷ []) B.int_max ∷
    -- 10 to 15
    takes "int_lin_eq" (parallel ∷ number ∷ []) B.int_lin_eq ∷
    takes "int_lin_le" (parallel ∷ number ∷ []) B.int_lin_le ∷
    takes "int_lin_ne" (parallel ∷ number ∷ []) B.int_lin_ne ∷
    takes "int_lin_eq_reif" (parallel ∷ number ∷ boolean ∷ []) B.int_lin_eq_reif ∷
    takes "int_eq_reif" (integer ∷ integer ∷ boolean ∷ []) B.int_eq_reif ∷
    takes "int_lin_le_reif" (parallel ∷ number ∷ boolean ∷ []) B.int_lin_le_reif ∷
    -- 16 to 23
    takes "bool2int" (boolean ∷ integer ∷ []) B.bool2int ∷
    takes "bool_not" (boolean ∷ boolean ∷ []) B.bool_not ∷
    takes "bool_and" (boolean ∷ boolean ∷ boolean ∷ []) B.bool_and ∷
    takes "bool_or" (boolean ∷ boolean ∷ boolean ∷ []) B.bool_or ∷
    takes "bool_xor" (boolean ∷ boolean ∷ boolean ∷ []) B.bool_xor ∷
    takes "bool_clause" (booleans ∷ booleans ∷ []) B.bool_clause ∷
    takes "array_bool_and" (booleans ∷ boolean ∷ []) B.array_bool_and ∷
    takes "array_bool_xor" (booleans ∷ []) B.array_bool_xor ∷
    -- 24 to 28
    takes "array_int_element" (integer ∷ numbers ∷ integer ∷ []) B.array_int_element ∷
    takes "array_var_int_element" (integer ∷ integers ∷ integer ∷ []) B.array_var_int_element ∷
    takes "array_int_maximum" (integer ∷ integers ∷ []) B.array_int_maximum ∷
    takes "set_in" (integer ∷ set ∷ []) B.set_in ∷
    takes "set_in_reif" (integer ∷ set ∷ boolean ∷ []) B.set_in_reif ∷
    -- 29 to 36
    takes "int_min" (integer ∷ integer ∷ integer ∷ []) B.int_min ∷
    takes "int_lt_reif" (integer ∷ integer ∷ boolean ∷ []) B.int_lt_reif ∷
    takes "int_ne_reif" (integer ∷ integer ∷ boolean ∷ []) B.int_ne_reif ∷
    takes "int_lin_ne_reif" (parallel ∷ number ∷ boolean ∷ []) B.int_lin_ne_reif ∷
    takes "array_int_minimum" (integer ∷ integers ∷ []) B.array_int_minimum ∷
    takes "bool_eq_reif" (boolean ∷ boolean ∷ boolean ∷ []) B.bool_eq_reif ∷
    takes "bool_le_reif" (boolean ∷ boolean ∷ boolean ∷ []) B.bool_le_reif ∷
    takes "bool_lt_reif" (boolean ∷ boolean ∷ boolean ∷ []) B.bool_lt_reif ∷
    -- 37, 38
    takes "int_div" (integer ∷ integer ∷ integer ∷ []) B.int_div ∷
    takes "int_mod" (integer ∷ integer ∷ integer ∷ []) B.int_mod ∷
    -- 39
    takes "int_pow" (integer ∷ exponent ∷ integer ∷ []) B.int_pow ∷
    []

-- the last code
abbrev pub last : ℕ
last = length codes
