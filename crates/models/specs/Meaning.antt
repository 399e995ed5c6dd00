-- When a builtin is true of values: 000, section 3, save where 01 or 02 states it otherwise; never by its rows.
use Rattle.std.specs.Prelude.{Bool, false, not, ◌&&◌, ◌||◌, List, map, ℕ, zero, suc, ◌-◌, ◌%◌, leb, eqb, ℤ, pos, negsuc, length, get_or}
use Rattle.std.specs.Bool.{beq}
use Rattle.std.specs.Int.Signed.{le_z, lt_z, quot_z, rem_z}
use Rattle.integers.specs.Number.{◌⊕◌, ◌⊗◌, min_z, max_z, abs_z, ◌≟◌, +0, +1}
use Rattle.integers.specs.Lists.{all, any, how_many}
use Rattle.integers.specs.Terms.{Valuation, sum}
use Rattle.models.specs.Builtin.{Builtin, int_eq, int_le, int_lt, int_ne, int_le_reif, int_plus, int_times, int_abs, int_max, int_lin_eq, int_lin_le, int_lin_ne, int_lin_eq_reif, int_eq_reif, int_lin_le_reif, bool2int, bool_not, bool_and, bool_or, bool_xor, bool_clause, array_bool_and, array_bool_xor, array_int_element, array_var_int_element, array_int_maximum, set_in, set_in_reif, int_min, int_lt_reif, int_ne_reif, int_lin_ne_reif, array_int_minimum, bool_eq_reif, bool_le_reif, bool_lt_reif, int_div, int_mod, int_pow}

-- a Boolean variable that is 1; one that is 0
unfoldable pub on : Valuation → ℕ → Bool
on σ v = σ v ≟ +1

unfoldable pub off : Valuation → ℕ → Bool
off σ v = σ v ≟ +0

-- "r is 1 exactly where": two tests agree
infix 3 ◌iff◌
abbrev pub ◌iff◌ : Bool → Bool → Bool
t iff u = beq t u

-- 000, 3.1.1: c is the i-th of the list, counted from 1; 01: "An index outside its list makes 24 and 25 false."
unfoldable pub element : ℤ → List ℤ → ℤ → Bool
element (pos i) xs c = leb 1 i && leb i (length xs) && (get_or xs (i - 1) +0 ≟ c)
element (negsuc i) xs c = false

-- 000, 3.1.2: m is one of the list, and none of the list is above it; 01: "No maximum of an empty list exists: false."
unfoldable pub maximum : ℤ → List ℤ → Bool
maximum m xs = any (λ x. x ≟ m) xs && all (λ x. le_z x m) xs

-- 000, 3.1.3: m is one of the list, and none of the list is below it; 02, wish 1: "false of an empty list"
unfoldable pub minimum : ℤ → List ℤ → Bool
minimum m xs = any (λ x. x ≟ m) xs && all (λ x. le_z m x) xs

-- 000, 3.3.1: x is one of the numbers
unfoldable pub member : ℤ → List ℤ → Bool
member x S = any (λ v. x ≟ v) S

-- a count is odd
unfoldable pub odd : ℕ → Bool
odd n = eqb (n % 2) 1

-- 000, 3.1.6, 3.1.21; 02, wish 6: "cut towards zero, false for d=0"
unfoldable pub quotient : ℤ → ℤ → ℤ → Bool
quotient n d q = not (d ≟ +0) && (quot_z n d ≟ q)

unfoldable pub remainder : ℤ → ℤ → ℤ → Bool
remainder n d r = not (d ≟ +0) && (rem_z n d ≟ r)

-- 000, 3.1.25: x to the power k; 02, wish 13: 1 for k=0, "also at x=0"
unfoldable pub power : ℤ → ℕ → ℤ
power x zero = +1
power x (suc k) = x ⊗ power x k

unfoldable pub meaning : Valuation → Builtin → Bool
-- 1 to 4: 000, 3.1.7, 3.1.9, 3.1.17, 3.1.22
meaning σ (int_eq a b) = σ a ≟ σ b
meaning σ (int_le a b) = le_z (σ a) (σ b)
meaning σ (int_lt a b) = lt_z (σ a) (σ b)
meaning σ (int_ne a b) = not (σ a ≟ σ b)
-- 5 to 9: 000, 3.1.10, 3.1.24, 3.1.26, 3.1.5, 3.1.19
meaning σ (int_le_reif a b r) = on σ r iff le_z (σ a) (σ b)
meaning σ (int_plus a b c) = σ a ⊕ σ b ≟ σ c
meaning σ (int_times a b c) = σ a ⊗ σ b ≟ σ c
meaning σ (int_abs x y) = abs_z (σ x) ≟ σ y
meaning σ (int_max a b c) = max_z (σ a) (σ b) ≟ σ c
-- 10 to 15: 000, 3.1.11, 3.1.13, 3.1.15, 3.1.12, 3.1.8, 3.1.14
meaning σ (int_lin_eq asbs c) = sum σ asbs ≟ c
meaning σ (int_lin_le asbs c) = le_z (sum σ asbs) c
meaning σ (int_lin_ne asbs c) = not (sum σ asbs ≟ c)
meaning σ (int_lin_eq_reif asbs c r) = on σ r iff sum σ asbs ≟ c
meaning σ (int_eq_reif a b r) = on σ r iff σ a ≟ σ b
meaning σ (int_lin_le_reif asbs c r) = on σ r iff le_z (sum σ asbs) c
-- 16 to 20: 000, 3.2.5, 3.2.16, 3.2.6, 3.2.17, 3.2.18
meaning σ (bool2int a b) = σ a ≟ σ b
meaning σ (bool_not a b) = not (σ a ≟ σ b)
meaning σ (bool_and a b r) = on σ r iff on σ a && on σ b
meaning σ (bool_or a b r) = on σ r iff on σ a || on σ b
meaning σ (bool_xor a b r) = on σ r iff not (σ a ≟ σ b)
-- 21, 22: 000, 3.2.7, 3.2.1. 23: 02, wish 5, "an odd number are 1"
meaning σ (bool_clause xs ys) = any (on σ) xs || any (off σ) ys
meaning σ (array_bool_and xs r) = on σ r iff all (on σ) xs
meaning σ (array_bool_xor xs) = odd (how_many (on σ) xs)
-- 24 to 28: 000, 3.1.1, 3.1.4, 3.1.2, 3.3.1, 3.3.2
meaning σ (array_int_element i ns c) = element (σ i) ns (σ c)
meaning σ (array_var_int_element i xs c) = element (σ i) (map σ xs) (σ c)
meaning σ (array_int_maximum m xs) = maximum (σ m) (map σ xs)
meaning σ (set_in x S) = member (σ x) S
meaning σ (set_in_reif x S r) = on σ r iff member (σ x) S
-- 29 to 33: 000, 3.1.20, 3.1.18, 3.1.23, 3.1.16, 3.1.3
meaning σ (int_min a b c) = min_z (σ a) (σ b) ≟ σ c
meaning σ (int_lt_reif a b r) = on σ r iff lt_z (σ a) (σ b)
meaning σ (int_ne_reif a b r) = on σ r iff not (σ a ≟ σ b)
meaning σ (int_lin_ne_reif asbs c r) = on σ r iff not (sum σ asbs ≟ c)
meaning σ (array_int_minimum m xs) = minimum (σ m) (map σ xs)
-- 34 to 36: 000, 3.2.9, 3.2.11, 3.2.15
meaning σ (bool_eq_reif a b r) = on σ r iff σ a ≟ σ b
meaning σ (bool_le_reif a b r) = on σ r iff le_z (σ a) (σ b)
meaning σ (bool_lt_reif a b r) = on σ r iff lt_z (σ a) (σ b)
-- 37, 38: 000, 3.1.6, 3.1.21
meaning σ (int_div n d q) = quotient (σ n) (σ d) (σ q)
meaning σ (int_mod n d r) = remainder (σ n) (σ d) (σ r)
-- 39: 000, 3.1.25
meaning σ (int_pow x k z) = power (σ x) k ≟ σ z
