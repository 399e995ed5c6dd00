-- Rows and products; 01: "products count as rows throughout". A row speaks of variables of any type X: numbers, or a block's own.
use Rattle.std.specs.Prelude.{Bool, List, map, ℤ}
use Rattle.std.specs.Int.Signed.{le_z}
use Rattle.integers.specs.Number.{◌⊕◌, ◌⊗◌, ◌≟◌, +0}
use Rattle.integers.specs.Terms.{Term, ◌·◌, sum}

pub data Row (X : Type 0) : Type 0 where
  -- 01, Words: "A a row "sum ≤ 0" and B "sum = 0"": terms, and a constant
  sum≤0 : List (Term X) → ℤ → Row X
  sum=0 : List (Term X) → ℤ → Row X
  -- "C a product": result, factor, factor
  product : X → X → X → Row X

-- 01, The words of demand 3: "A row is satisfied when its terms, each coefficient × value, and its constant add up to at most 0 for A, to 0 for B;
-- a product, when the result's value is the first factor's × the second's."
unfoldable pub satisfied : {X : Type 0} → (X → ℤ) → Row X → Bool
satisfied ρ (sum≤0 ts c) = le_z (sum ρ ts ⊕ c) +0
satisfied ρ (sum=0 ts c) = sum ρ ts ⊕ c ≟ +0
satisfied ρ (product r f g) = ρ r ≟ ρ f ⊗ ρ g

-- the same row over other variables
unfoldable pub rename_terms : {X Y : Type 0} → (X → Y) → List (Term X) → List (Term Y)
rename_terms f ts = map (λ t. t.coefficient · f t.variable) ts

unfoldable pub rename : {X Y : Type 0} → (X → Y) → Row X → Row Y
rename f (sum≤0 ts c) = sum≤0 (rename_terms f ts) c
rename f (sum=0 ts c) = sum=0 (rename_terms f ts) c
rename f (product r g h) = product (f r) (f g) (f h)
