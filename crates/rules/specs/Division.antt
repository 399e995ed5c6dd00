-- 02, wish 6: "The ten linear rows over the same six variables n, d, p, α, β, γ form one block of ten by seven numbers, zeros written, in 000's
-- order, a ≥ row as right side less left" (000, 3.1.6, the first and the last row as 02 corrects them).
use mathlib.Core.List.{List, [], ◌∷◌, map, zip_with}
use Rattle.std.specs.Prelude.{ℤ, length, get_or}
use Rattle.integers.specs.Number.{◌⊕◌, ◌⊖◌, neg, max_z, abs_z, +0, +1, -1}
use Rattle.integers.specs.Bounds.{◌to◌}
use Rattle.integers.specs.Terms.{◌·◌}
use Rattle.integers.specs.declared.Bounds.{Bounds}
use Rattle.rowsystems.specs.Row.{Row, sum≤0, sum=0, product}
use Rattle.rules.specs.Block.{Ref}

-- "M is the largest, over the bounds, each term taken by itself, of p−n, n−p, n−d−p+1, p−n+d+1, n+d−p+1 and p−n−d+1"; the bounds of n, d, p
unfoldable pub M : Bounds → Bounds → Bounds → ℤ
M N D P =
    max_z
    (max_z (P.upper ⊖ N.lower) (N.upper ⊖ P.lower))
    (max_z
    (max_z (N.upper ⊖ D.lower ⊖ P.lower ⊕ +1) (P.upper ⊖ N.lower ⊕ D.upper ⊕ +1))
    (max_z (N.upper ⊕ D.upper ⊖ P.lower ⊕ +1) (P.upper ⊖ N.lower ⊖ D.lower ⊕ +1)))

-- the coefficients of n, d, p, α, β, γ and the constant, of each of the ten rows; m is M
unfoldable pub division_table : Bounds → Bounds → ℤ → List (List ℤ)
division_table N D m =
    -- n ≥ lo(n) − α×lo(n); n ≤ α×(hi(n)+1) − 1
    (-1 ∷ +0 ∷ +0 ∷ neg N.lower ∷ +0 ∷ +0 ∷ N.lower ∷ []) ∷
    (+1 ∷ +0 ∷ +0 ∷ neg (N.upper ⊕ +1) ∷ +0 ∷ +0 ∷ +1 ∷ []) ∷
    -- d ≥ lo(d) − β×(lo(d)−1); d ≤ β×(hi(d)+1) − 1
    (+0 ∷ -1 ∷ +0 ∷ +0 ∷ (+1 ⊖ D.lower) ∷ +0 ∷ D.lower ∷ []) ∷
    (+0 ∷ +1 ∷ +0 ∷ +0 ∷ neg (D.upper ⊕ +1) ∷ +0 ∷ +1 ∷ []) ∷
    -- p ≤ n + M − α×M; p ≥ n − α×M
    (-1 ∷ +0 ∷ +1 ∷ m ∷ +0 ∷ +0 ∷ neg m ∷ []) ∷
    (+1 ∷ +0 ∷ -1 ∷ neg m ∷ +0 ∷ +0 ∷ +0 ∷ []) ∷
    -- n − d ≤ p + M − γ×M − 1; n − d ≥ p − α×M − β×M + γ×M + 1
    (+1 ∷ -1 ∷ -1 ∷ +0 ∷ +0 ∷ m ∷ (+1 ⊖ m) ∷ []) ∷
    (-1 ∷ +1 ∷ +1 ∷ neg m ∷ neg m ∷ m ∷ +1 ∷ []) ∷
    -- n + d ≤ p + M − α×M + γ×M − 1; n + d ≥ p − M + β×M − γ×M + 1
    (+1 ∷ +1 ∷ -1 ∷ m ∷ +0 ∷ neg m ∷ (+1 ⊖ m) ∷ []) ∷
    (-1 ∷ -1 ∷ +1 ∷ +0 ∷ m ∷ neg m ∷ (+1 ⊖ m) ∷ []) ∷
    []

-- a row of a table over its variables: a coefficient for each, then the constant
unfoldable pub table_row : {X : Type 0} → List X → List ℤ → Row X
table_row xs cs = sum≤0 (zip_with (λ c x. c · x) cs xs) (get_or cs (length xs) +0)

-- "p:=d×q, γ:=α×β", and the ten rows; the bounds of n, d, p
unfoldable pub division_rows : Bounds → Bounds → Bounds → (n d q α β p γ : Ref) → List (Row Ref)
division_rows N D P n d q α β p γ =
    product p d q ∷ product γ α β ∷ map (table_row (n ∷ d ∷ p ∷ α ∷ β ∷ γ ∷ [])) (division_table N D (M N D P))

-- 38: q "within plus or minus the larger of |lo n| and |hi n|"
unfoldable pub quotient_bounds : Bounds → Bounds
quotient_bounds N = let w = max_z (abs_z N.lower) (abs_z N.upper) in neg w to w

-- "and ends with p+r−n=0"
unfoldable pub remainder_row : (p r n : Ref) → Row Ref
remainder_row p r n = sum=0 (+1 · p ∷ +1 · r ∷ -1 · n ∷ []) +0
