-- Σ of a number of each element.
use Rattle.std.specs.Prelude.{List, [], ◌∷◌, ℤ}
use Rattle.integers.specs.Number.{◌⊕◌, +0}

unfoldable pub sum_over : {A : Type 0} → (A → ℤ) → List A → ℤ
sum_over f [] = +0
sum_over f (x ∷ xs) = f x ⊕ sum_over f xs
