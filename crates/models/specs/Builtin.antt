-- 01, Rules of the 28 codes, and 02, wishes 1, 6 and 13: the builtins in the order of their codes, with their names of the arguments.
-- A variable argument is the variable's number; parallel lists of numbers and variables are a list of terms.
-- 01's as is as₁ here.
use Rattle.std.specs.Prelude.{List, ℕ, ℤ}
use Rattle.integers.specs.Terms.{Term}

pub data Builtin : Type 0 where
  -- 1 to 9
  int_eq int_le int_lt int_ne : (a b : ℕ) → Builtin
  int_le_reif : (a b r : ℕ) → Builtin
  int_plus int_times : (a b c : ℕ) → Builtin
  int_abs : (x y : ℕ) → Builtin
  int_max : (a b c : ℕ) → Builtin
  -- 10 to 15
  int_lin_eq int_lin_le int_lin_ne : (asbs : List (Term ℕ)) (c : ℤ) → Builtin
  int_lin_eq_reif : (asbs : List (Term ℕ)) (c : ℤ) (r : ℕ) → Builtin
  int_eq_reif : (a b r : ℕ) → Builtin
  int_lin_le_reif : (asbs : List (Term ℕ)) (c : ℤ) (r : ℕ) → Builtin
  -- 16 to 23
  bool2int bool_not : (a b : ℕ) → Builtin
  bool_and bool_or bool_xor : (a b r : ℕ) → Builtin
  bool_clause : (as₁ bs : List ℕ) → Builtin
  array_bool_and : (as₁ : List ℕ) (r : ℕ) → Builtin
  array_bool_xor : (as₁ : List ℕ) → Builtin
  -- 24 to 28
  array_int_element : (i : ℕ) (as₁ : List ℤ) (c : ℕ) → Builtin
  array_var_int_element : (i : ℕ) (as₁ : List ℕ) (c : ℕ) → Builtin
  array_int_maximum : (m : ℕ) (xs : List ℕ) → Builtin
  set_in : (x : ℕ) (S : List ℤ) → Builtin
  set_in_reif : (x : ℕ) (S : List ℤ) (r : ℕ) → Builtin
  -- 29 to 36
  int_min : (a b c : ℕ) → Builtin
  int_lt_reif int_ne_reif : (a b r : ℕ) → Builtin
  int_lin_ne_reif : (asbs : List (Term ℕ)) (c : ℤ) (r : ℕ) → Builtin
  array_int_minimum : (m : ℕ) (xs : List ℕ) → Builtin
  bool_eq_reif bool_le_reif bool_lt_reif : (a b r : ℕ) → Builtin
  -- 37, 38
  int_div : (n d q : ℕ) → Builtin
  int_mod : (n d r : ℕ) → Builtin
  -- 39; k is the exponent itself, not a variable
  int_pow : (x k z : ℕ) → Builtin
