-- The sum of a constraint by the words of the whole model, as the code finds it: a is the place after the constraint's head. And the sums of all constraints.
use Rattle.std.specs.Prelude.{◌≡◌, List, ℕ, zero, suc, ◌+◌, ◌-◌, ◌<◌, ◌≤◌, eqb, ℤ, length, get_or, set, replicate}
use Rattle.integers.specs.Choice.{◌if◌else◌}
use Rattle.integers.specs.Number.{◌⊕◌, ◌⊗◌, min_z, max_z, +0, +1, -1}
use Rattle.integers.specs.Bounds.{◌to◌, bounds_in}
use Rattle.integers.specs.Lists.{list_of}
use Rattle.integers.specs.Terms.{Term, ◌·◌}
use Rattle.integers.specs.declared.Bounds.{Bounds}
use Rattle.words.specs.Word.{payload, word_at}
use Rattle.models.specs.Model.{var, num, size, past, past_terms}
use Rattle.rules.specs.Parts.{L, U}
use Rattle.linearsums.specs.Sum.{no_sum, of_terms, of_two, form_of}

module _ (ws : List ℕ) where
  -- the code of the constraint whose head stands before place a, 0 at the front
  unfoldable pub code_before : ℕ → ℕ
  code_before a = 0 if eqb a 0 else payload (word_at ws (a - 1))

  -- which sum it has
  unfoldable pub form_before : ℕ → ℕ
  form_before a = form_of (code_before a)

  module _ (a : ℕ) where
    -- how many terms the sum has
    unfoldable pub sum_size : ℕ
    sum_size =
        0 if eqb (form_before a) no_sum else
        2 if eqb (form_before a) of_two else
        size ws a

    -- the number and the variable of term k, and the constant c
    unfoldable pub sum_number : ℕ → ℤ
    sum_number k =
        (+1 if eqb k 0 else -1) if eqb (form_before a) of_two else
        num ws (a + 1 + k)

    unfoldable pub sum_variable : ℕ → ℕ
    sum_variable k = var ws (a + k) if eqb (form_before a) of_two else var ws (past ws a + k)

    unfoldable pub sum_constant : ℤ
    sum_constant = num ws (past_terms ws a) if eqb (form_before a) of_terms else +0

    -- the first k terms
    unfoldable pub sum_terms : ℕ → List (Term ℕ)
    sum_terms k = list_of (λ j. sum_number j · sum_variable j) k

    -- L and U of the first k terms, and of the whole sum
    unfoldable pub sum_up_to : (ℕ → Bounds) → ℕ → Bounds
    sum_up_to β k = L β (sum_terms k) sum_constant to U β (sum_terms k) sum_constant

    unfoldable pub sum_bounds : (ℕ → Bounds) → Bounds
    sum_bounds β = sum_up_to β sum_size

-- one term more: the number n of the term and the bounds B of its variable
unfoldable pub with_term : Bounds → ℤ → Bounds → Bounds
with_term T n B = T.lower ⊕ min_z (n ⊗ B.lower) (n ⊗ B.upper) to T.upper ⊕ max_z (n ⊗ B.lower) (n ⊗ B.upper)

-- ---- all constraints of a model

-- the words have a place for each of the first n heads
abbrev pub HeadsInside : List ℕ → List ℕ → ℕ → Type 0
HeadsInside ws hs n = (k : ℕ) → k < n → get_or hs k 0 < length ws

-- L and U of the sums of the first k constraints, whose heads stand at the places hs, in a list for 256 constraints
unfoldable pub sums_up_to : List ℕ → List ℕ → (ℕ → Bounds) → ℕ → List Bounds
sums_up_to ws hs β zero = replicate 256 (+0 to +0)
sums_up_to ws hs β (suc k) = set (sums_up_to ws hs β k) k (sum_bounds ws (get_or hs k 0 + 1) β)

-- a list has L and U of the first n of them
abbrev pub SumsKept : List Bounds → ℕ → List Bounds → Type 0
SumsKept sums n Bs = (k : ℕ) → k < n → bounds_in sums k ≡ bounds_in Bs k

-- what working out the sums of n constraints wants: few words, heads among them, and a list for 256
abbrev pub Summable : List ℕ → List ℕ → ℕ → List Bounds → Type 0
Summable ws hs n sums =
    (length ws < 1099511627776)
    × (n ≤ 256)
    × HeadsInside ws hs n
    × (length sums ≡ 256)
