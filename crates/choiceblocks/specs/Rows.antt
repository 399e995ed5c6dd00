-- What the loops lay, turn by turn, and the rows over one-hot bits.
use Rattle.std.specs.Prelude.{Bool, List, [], ◌∷◌, ◌++◌, ℕ, ◌+◌, ◌-◌, ℤ, get_or}
use Rattle.integers.specs.Choice.{◌if◌else◌}
use Rattle.integers.specs.declared.Bounds.{Bounds}
use Rattle.integers.specs.Number.{◌⊕◌, ◌⊖◌, min_z, max_z, count, +0, +1, -1}
use Rattle.words.specs.Kind as Kind
use Rattle.models.specs.Builtin.{Builtin, array_int_element, array_var_int_element, set_in, set_in_reif}
use Rattle.models.specs.Model.{var, num, size, vars, nums, past}
use Rattle.rules.specs.Block.{Block}
use Rattle.rules.specs.Rule.{one_of}
use Rattle.laying.specs.Part.{Part, bound, head, term, constant}
use Rattle.laying.specs.Lists.{many, same_at, label_at, bit_at, product_at}

-- Z(x), the variables x from a place on
abbrev pub zero_at : (ℕ → Bounds) → List ℕ → ℕ → ℕ → List Part
zero_at β args base k = bound (min_z +0 (β (var args (base + k))).lower) (max_z +0 (β (var args (base + k))).upper) ∷ []

-- over consecutive variables: the numbers from a place on, the numbers of a list
abbrev pub number_term_at : List ℕ → ℕ → ℕ → ℕ → List Part
number_term_at args base v k = term (num args (base + k)) (v + k) ∷ []

abbrev pub value_at : List ℤ → ℕ → ℕ → List Part
value_at vs v k = term (get_or vs k +0) (v + k) ∷ []

-- coefficient 1, over the variables that the numbers of a list label, v of the label `from`
abbrev pub member_at : List ℤ → ℤ → ℕ → ℕ → List Part
member_at vs from v k = term +1 (v + count (get_or vs k +0 ⊖ from)) ∷ []

-- Σ − 1 = 0 over n consecutive variables; Σ − x = 0 over n terms
unfoldable pub one_row : ℕ → ℕ → List Part
one_row v n = head Kind.equal n ∷ (many (same_at +1 v) n ++ (constant -1 ∷ []))

unfoldable pub sum_row : (ℕ → List Part) → ℕ → ℕ → List Part
sum_row f n x = head Kind.equal (n + 1) ∷ (many f n ++ (term -1 x ∷ constant +0 ∷ []))

-- n consecutive bits of which one is 1, their labels rise by 1: x is the label of that bit
unfoldable pub choice_rows : ℤ → ℕ → ℕ → ℕ → List Part
choice_rows from v n x = one_row v n ++ sum_row (label_at from v) n x

-- n bits, and Z of the variables from a place on; z := x × b for each, and Σz − m = 0
unfoldable pub gates : (ℕ → Bounds) → List ℕ → ℕ → ℕ → List Part
gates β args base n = many bit_at n ++ many (zero_at β args base) n

unfoldable pub gated_rows : List ℕ → ℕ → ℕ → ℕ → ℕ → List Part
gated_rows args base v n m = many (product_at args base (v + n) v) n ++ sum_row (same_at +1 (v + n)) n m

-- x − y + K×Σ + 1 − K ≤ 0 over n consecutive variables, K = hi x − lo y + 1
unfoldable pub later_row : (ℕ → Bounds) → ℕ → ℕ → ℕ → ℕ → List Part
later_row β x y v n =
    let K = (β x).upper ⊖ (β y).lower ⊕ +1 in
    head Kind.at_most (n + 2) ∷ term +1 x ∷ term -1 y ∷ (many (same_at K v) n ++ (constant (+1 ⊖ K) ∷ []))

-- such a row of two variables of a place, over the bits after the one of the place; the n bits from v on
abbrev pub first_at : (ℕ → Bounds) → (ℕ → ℕ) → (ℕ → ℕ) → ℕ → ℕ → ℕ → List Part
first_at β x y v n k = later_row β (x k) (y k) (v + (k + 1)) (n - (k + 1))

-- 26 and 33 with the arguments' m and list: what stands before the row of each x; the block, with x − m ≤ 0 or m − x ≤ 0
unfoldable pub one_of_parts : (ℕ → Bounds) → List ℕ → ℕ → List Part
one_of_parts β args first =
    let n = size args 1 in
    gates β args 2 n ++ (one_row first n ++ gated_rows args 2 first n (var args 0))

abbrev pub extreme_of : (ℕ → Bounds) → Bool → ℕ → List ℕ → Block
extreme_of β up m xs = one_of β (λ x. x if up else m) (λ x. m if up else x) m xs

-- the same with the m and the list among the arguments
abbrev pub extreme_block : (ℕ → Bounds) → Bool → List ℕ → Block
extreme_block β up args = extreme_of β up (var args 0) (vars args 1)

-- 24, 25, 27 and 28 of their arguments
abbrev pub number_element_of : List ℕ → Builtin
number_element_of args = array_int_element (var args 0) (nums args 1) (var args (past args 1))

abbrev pub variable_element_of : List ℕ → Builtin
variable_element_of args = array_var_int_element (var args 0) (vars args 1) (var args (past args 1))

abbrev pub set_of : List ℕ → Builtin
set_of args = set_in (var args 0) (nums args 1)

abbrev pub set_reified_of : List ℕ → Builtin
set_reified_of args = set_in_reif (var args 0) (nums args 1) (var args (past args 1))
