-- What the loops lay, turn by turn; rows of given terms.
use Rattle.std.specs.Prelude.{Bool, List, [], ◌∷◌, ◌++◌, ℕ, zero, suc, ◌+◌, ℤ, pos, length, get_or}
use Rattle.integers.specs.Choice.{◌if◌else◌}
use Rattle.integers.specs.Number.{◌⊕◌, +0, +1, -1}
use Rattle.words.specs.Kind as Kind
use Rattle.models.specs.Model.{var, num}
use Rattle.laying.specs.Part.{Part, bound, head, term, constant, times}
use Rattle.laying.specs.declared.term.Term.{Term}

-- coefficient × variable
abbrev pub term_of : ℤ → ℕ → Term
term_of c v = record { coefficient = c; variable = v }

-- f 0, f 1, .. : n lists one after the other
unfoldable pub many : (ℕ → List Part) → ℕ → List Part
many f zero = []
many f (suc n) = f 0 ++ many (λ k. f (suc k)) n

-- a row of given terms
abbrev pub term_at : List Term → ℕ → List Part
term_at ts k = term (get_or ts k (term_of +0 0)).coefficient (get_or ts k (term_of +0 0)).variable ∷ []

unfoldable pub row_parts_of : ℕ → List Term → ℤ → List Part
row_parts_of kind ts c = head kind (length ts) ∷ (many (term_at ts) (length ts) ++ (constant c ∷ []))

-- number × variable, the numbers from place a on, the variables from place x on; c × variable
abbrev pub sum_at : List ℕ → ℕ → ℕ → ℕ → List Part
sum_at args a x k = term (num args (a + k)) (var args (x + k)) ∷ []

abbrev pub each_at : List ℕ → ℤ → ℕ → ℕ → List Part
each_at args c x k = term c (var args (x + k)) ∷ []

-- over consecutive variables: one coefficient for all; consecutive coefficients
abbrev pub same_at : ℤ → ℕ → ℕ → List Part
same_at c v k = term c (v + k) ∷ []

abbrev pub label_at : ℤ → ℕ → ℕ → List Part
label_at from v k = term (from ⊕ pos k) (v + k) ∷ []

-- a bit
abbrev pub bit_at : ℕ → List Part
bit_at k = bound +0 +1 ∷ []

-- z := x × b, the variables x from a place on
abbrev pub product_at : List ℕ → ℕ → ℕ → ℕ → ℕ → List Part
product_at args x z b k = times (z + k) (var args (x + k)) (b + k) ∷ []

-- x − m ≤ 0, the variables x from a place on; m − x ≤ 0, where it is not up
abbrev pub order_at : List ℕ → ℕ → ℕ → Bool → ℕ → List Part
order_at args x m up k = row_parts_of Kind.at_most (term_of +1 (var args (x + k) if up else m) ∷ term_of -1 (m if up else var args (x + k)) ∷ []) +0
