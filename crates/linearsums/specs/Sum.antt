-- L and U of the sum of a constraint, by the words after the constraint's head, and which codes have one.
use Rattle.std.specs.Prelude.{◌≡◌, List, [], ◌∷◌, ℕ, ◌≤◌, eqb, nat_abs}
use Rattle.integers.specs.Choice.{◌if◌else◌}
use Rattle.integers.specs.Number.{+0, +1, -1}
use Rattle.integers.specs.Bounds.{◌to◌}
use Rattle.integers.specs.Lists.{any}
use Rattle.integers.specs.Terms.{◌·◌}
use Rattle.integers.specs.declared.Bounds.{Bounds}
use Rattle.models.specs.Model.{var, num, past_terms, terms}
use Rattle.rules.specs.Parts.{L, U}

-- the sum of a code: none, that of its terms and its number, or a − b; numbers, as the definition has had them: the code has `SumForm`, tied to them by `Forms`
abbrev pub no_sum : ℕ
no_sum = 0

abbrev pub of_terms : ℕ
of_terms = 1

abbrev pub of_two : ℕ
of_two = 2

unfoldable pub form_of : ℕ → ℕ
form_of code = of_terms if any (eqb code) (12 ∷ 13 ∷ 15 ∷ 32 ∷ []) else of_two if any (eqb code) (14 ∷ 31 ∷ []) else no_sum

-- 01, Rules of the 28 codes: "L and U are the least and largest of Σ as×bs − c over the bounds"; "14 int_eq_reif(a,b,r): 13 with as=1,−1, c=0".
-- 02, wish 1: "31 int_ne_reif is that with 1, −1, c=0", of 32
unfoldable pub linear_sum : (ℕ → Bounds) → List ℕ → Bounds
linear_sum β args = L β (terms args 0) (num args (past_terms args 0)) to U β (terms args 0) (num args (past_terms args 0))

unfoldable pub equal_sum : (ℕ → Bounds) → List ℕ → Bounds
equal_sum β args =
    let asbs = +1 · var args 0 ∷ -1 · var args 1 ∷ [] in
    L β asbs +0 to U β asbs +0

unfoldable pub sum_of : (ℕ → Bounds) → ℕ → List ℕ → Bounds
sum_of β code args = equal_sum β args if eqb (form_of code) of_two else linear_sum β args

-- L and U that callers can take as far as rows do
abbrev pub Fits : Bounds → Type 0
Fits S = (nat_abs S.lower ≤ 1152921504606846976) × (nat_abs S.upper ≤ 1152921504606846976)

-- S serves the block of a constraint: it fits, and it is L and U where the rule has these
pub record Summed (β : ℕ → Bounds) (code : ℕ) (args : List ℕ) (S : Bounds) : Type 0 where
  pub fits : Fits S
  pub is : (form_of code ≡ no_sum → ⊥) → S ≡ sum_of β code args
