-- The parts of the blocks of 10 to 15, 21, 22, 31 and 32, as several writers lay them: in 12 to 15, 31 and 32, x is auxiliary 0 and z auxiliary 2.
use Rattle.std.specs.Prelude.{Bool, List, [], ◌∷◌, ◌++◌, ℕ, ◌+◌, ℤ, pos, length}
use Rattle.integers.specs.Number.{◌⊖◌, neg, +0, +1, +2, -1, -2}
use Rattle.integers.specs.Bounds.{◌to◌, bit}
use Rattle.integers.specs.Terms.{◌·◌}
use Rattle.integers.specs.declared.Bounds.{Bounds}
use Rattle.models.specs.Builtin.{Builtin, bool_clause, array_bool_and, int_lin_le_reif}
use Rattle.models.specs.Model.{var, num, vars, terms, past, past_terms}
use Rattle.builtins.specs.Coded.{linear_reified}
use Rattle.rowsystems.specs.Row.{Row, sum≤0, sum=0, product}
use Rattle.rules.specs.Block.{Ref, source, aux, Block, block}
use Rattle.rules.specs.Parts.{Z, sources, each}
use Rattle.rules.specs.Rule.{rule, zero_reified}
use Rattle.laying.specs.Part.{Part, head, constant, term_parts}

-- Σ−x−c=0
unfoldable pub link : List ℕ → Row Ref
link args = sum=0 (sources (terms args 0) ++ (-1 · aux 0 ∷ [])) (neg (num args (past_terms args 0)))

-- x in given bounds, b, z in Z(x): Σ−x−c=0; z:=b×x
unfoldable pub split : List ℕ → ℤ → ℤ → Block
split args lower upper =
    block ((lower to upper) ∷ bit ∷ Z (lower to upper) ∷ []) (link args ∷ product (aux 2) (aux 1) (aux 0) ∷ [])

-- x in given bounds: Σ−x−c=0
unfoldable pub bounded_sum : List ℕ → ℤ → ℤ → Block
bounded_sum args lower upper = block ((lower to upper) ∷ []) (link args ∷ [])

-- x−2×z+p×r+q≤0; −x+2×z+u×r+v≤0
unfoldable pub size_rows : ℕ → ℤ → ℤ → ℤ → ℤ → List (Row Ref)
size_rows r p q u v =
    sum≤0 (+1 · aux 0 ∷ -2 · aux 2 ∷ p · source r ∷ []) q
    ∷ sum≤0 (-1 · aux 0 ∷ +2 · aux 2 ∷ u · source r ∷ []) v
    ∷ []

-- x+U×r−U≤0; −x+(L−1)×r+1≤0
unfoldable pub at_most_rows : ℤ → ℤ → ℕ → List (Row Ref)
at_most_rows L U r =
    sum≤0 (+1 · aux 0 ∷ U · source r ∷ []) (neg U)
    ∷ sum≤0 (-1 · aux 0 ∷ (L ⊖ +1) · source r ∷ []) +1
    ∷ []

-- 13 and 32 of the terms and the number among the arguments, and the variable after them; 14 and 31 of three variables
abbrev pub terms_reified : (ℕ → Bounds) → Bool → List ℕ → Block
terms_reified β equal args = zero_reified β equal (terms args 0) (num args (past_terms args 0)) (var args (past_terms args 0 + 1))

abbrev pub two_reified : (ℕ → Bounds) → Bool → List ℕ → Block
two_reified β equal args = zero_reified β equal (+1 · var args 0 ∷ -1 · var args 1 ∷ []) +0 (var args 2)

-- Σ−c of a kind, by its parts
abbrev pub sum_parts : ℕ → ℕ → List ℕ → List Part
sum_parts kind first args =
    let ts = sources (terms args 0) in
    head kind (length ts) ∷ (term_parts first ts ++ (constant (neg (num args (past_terms args 0))) ∷ []))

-- 22: Σas−r−n+1≤0
abbrev pub all_row : List ℕ → ℕ → Row Ref
all_row xs r = sum≤0 (each +1 xs ++ (-1 · source r ∷ [])) (+1 ⊖ pos (length xs))

-- 21 and 22 of their arguments
abbrev pub clause_of : List ℕ → Builtin
clause_of args = bool_clause (vars args 0) (vars args (past args 0))

abbrev pub and_of : List ℕ → Builtin
and_of args = array_bool_and (vars args 0) (var args (past args 0))

-- 15 of its arguments
abbrev pub at_most_reified : (ℕ → Bounds) → List ℕ → Block
at_most_reified β args = rule β (linear_reified int_lin_le_reif args)
