-- What fill picks for the auxiliaries of each builtin, where the values σ make it true; 01, Five calls: "It picks b=1 in 8, 12, 13, 14 only for
-- a negative x; r=0 in 9 when a=c; the first maximum in 26."; in 23 the t with Σ−2×t−1=0. 02, wish 1: "Fill takes r=0 in 29 when a=c, the first
-- minimum in 33, b=1 in 31 and 32 only for a negative x."
use Rattle.std.specs.Prelude.{Bool, not, ℕ, zero, suc, ℤ, pos, length}
use mathlib.Core.List.{List, [], ◌∷◌, ◌++◌, map, zip_with}
use Rattle.std.specs.Int.Signed.{le_z, lt_z, quot_z}
use Rattle.integers.specs.Choice.{◌if◌else◌}
use Rattle.integers.specs.Number.{◌⊖◌, ◌⊗◌, ◌≟◌, +0, +1, -1}
use Rattle.integers.specs.Lists.{how_many}
use Rattle.integers.specs.Bounds.{values}
use Rattle.integers.specs.Terms.{Valuation, ◌·◌, sum}
use Rattle.integers.specs.declared.Bounds.{Bounds}
use Rattle.models.specs.Builtin.{Builtin, int_eq, int_le, int_lt, int_ne, int_le_reif, int_plus, int_times, int_abs, int_max, int_lin_eq, int_lin_le, int_lin_ne, int_lin_eq_reif, int_eq_reif, int_lin_le_reif, bool2int, bool_not, bool_and, bool_or, bool_xor, bool_clause, array_bool_and, array_bool_xor, array_int_element, array_var_int_element, array_int_maximum, set_in, set_in_reif, int_min, int_lt_reif, int_ne_reif, int_lin_ne_reif, array_int_minimum, bool_eq_reif, bool_le_reif, bool_lt_reif, int_div, int_mod, int_pow}
use Rattle.models.specs.Meaning.{on}
use Rattle.rules.specs.Parts.{half_less, nth, places, members}
use Rattle.rules.specs.Power.{power_values}

unfoldable pub bit_of : Bool → ℤ
bit_of t = +1 if t else +0

-- b and z := b×x, b=1 only for a negative x
unfoldable pub sign_pick : ℤ → List ℤ
sign_pick x = let b = bit_of (lt_z x +0) in b ∷ (b ⊗ x) ∷ []

-- 12 to 14, 31, 32: x = Σ − c, then b and z
unfoldable pub signed_pick : ℤ → List ℤ
signed_pick x = x ∷ sign_pick x

-- one-hot bits: 1 for the first label that passes the test, 0 for all others
unfoldable pub first_bit : {A : Type 0} → (A → Bool) → List A → List ℤ
first_bit t [] = []
first_bit t (l ∷ ls) = let rest = first_bit t ls in +1 ∷ map (λ l. +0) ls if t l else +0 ∷ rest

-- the bits, and z := x×b for each label
unfoldable pub gated_pick : {A : Type 0} → (A → ℤ) → (A → Bool) → List A → List ℤ
gated_pick x t ls = first_bit t ls ++ zip_with (λ l b. x l ⊗ b) ls (first_bit t ls)

-- 37: α=1 exactly for n≥0, β=1 exactly for d>0, p, γ
unfoldable pub division_pick : ℤ → ℤ → ℤ → List ℤ
division_pick n d q =
    let α = bit_of (le_z +0 n) in
    let β = bit_of (lt_z +0 d) in
    α ∷ β ∷ (d ⊗ q) ∷ (α ⊗ β) ∷ []

-- 38: q, then those of 37
unfoldable pub left_over_pick : ℤ → ℤ → List ℤ
left_over_pick n d = quot_z n d ∷ division_pick n d (quot_z n d)

-- 39: the products of the chain
unfoldable pub power_pick : ℤ → ℕ → List ℤ
power_pick x zero = []
power_pick x (suc k) = (power_values x (suc k)).picked

module _ (β : ℕ → Bounds) (σ : Valuation) where
  unfoldable pub pick : Builtin → List ℤ
  pick (int_eq a b) = []
  pick (int_le a b) = []
  pick (int_lt a b) = []
  pick (int_ne a b) = bit_of (lt_z (σ b) (σ a)) ∷ []
  pick (int_le_reif a b r) = []
  pick (int_plus a b c) = []
  pick (int_times a b c) = (σ a ⊗ σ b) ∷ []
  pick (int_abs x y) = sign_pick (σ x)
  pick (int_max a b c) = bit_of (not (σ a ≟ σ c)) ∷ []
  pick (int_lin_eq asbs c) = []
  pick (int_lin_le asbs c) = []
  pick (int_lin_ne asbs c) = signed_pick (sum σ asbs ⊖ c)
  pick (int_lin_eq_reif asbs c r) = signed_pick (sum σ asbs ⊖ c)
  pick (int_eq_reif a b r) = signed_pick (sum σ (+1 · a ∷ -1 · b ∷ []) ⊖ +0)
  pick (int_lin_le_reif asbs c r) = (sum σ asbs ⊖ c) ∷ []
  pick (bool2int a b) = []
  pick (bool_not a b) = []
  pick (bool_and a b r) = []
  pick (bool_or a b r) = []
  pick (bool_xor a b r) = (σ r ⊗ σ a) ∷ (σ r ⊗ σ b) ∷ []
  pick (bool_clause xs ys) = []
  pick (array_bool_and xs r) = []
  pick (array_bool_xor xs) = pos (half_less (how_many (on σ) xs)) ∷ []
  pick (array_int_element i ns c) = first_bit (λ j. j ≟ σ i) (values (places (β i) (length ns)))
  pick (array_var_int_element i xs c) = gated_pick (λ j. σ (nth 0 xs j)) (λ j. j ≟ σ i) (values (places (β i) (length xs)))
  pick (array_int_maximum m xs) = gated_pick σ (λ x. σ x ≟ σ m) xs
  pick (set_in x S) = first_bit (λ v. v ≟ σ x) (members S (β x))
  pick (set_in_reif x S r) = first_bit (λ v. v ≟ σ x) (values (β x))
  pick (int_min a b c) = bit_of (not (σ a ≟ σ c)) ∷ []
  pick (int_lt_reif a b r) = []
  pick (int_ne_reif a b r) = signed_pick (sum σ (+1 · a ∷ -1 · b ∷ []) ⊖ +0)
  pick (int_lin_ne_reif asbs c r) = signed_pick (sum σ asbs ⊖ c)
  pick (array_int_minimum m xs) = gated_pick σ (λ x. σ x ≟ σ m) xs
  pick (bool_eq_reif a b r) = (σ r ⊗ σ a) ∷ (σ r ⊗ σ b) ∷ []
  pick (bool_le_reif a b r) = []
  pick (bool_lt_reif a b r) = []
  pick (int_div n d q) = division_pick (σ n) (σ d) (σ q)
  pick (int_mod n d r) = left_over_pick (σ n) (σ d)
  pick (int_pow x k z) = power_pick (σ x) k
