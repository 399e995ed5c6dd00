-- Both judges; 01, Five calls: "answer "holds", else the first variable out of bounds, else the first false constraint or row, counted from 0".
use Rattle.std.specs.Prelude.{Bool, List, [], ◌∷◌, ℕ, ◌+◌}
use Rattle.integers.specs.Choice.{◌if◌else◌}
use Rattle.integers.specs.Bounds.{within}
use Rattle.integers.specs.Terms.{Valuation}
use Rattle.integers.specs.declared.Bounds.{Bounds}
use Rattle.words.specs.Answer.{Answer, holds, out_of_bounds, is_false}

-- the first of the things, counted from k, that fails the test
unfoldable pub first_false : {A : Type 0} → (A → Bool) → ℕ → List A → Answer
first_false t k [] = holds
first_false t k (x ∷ xs) = let rest = first_false t (k + 1) xs in rest if t x else is_false k

-- the first variable, counted from k, whose value is out of its bounds, else what comes after
unfoldable pub first_out_of_bounds : Valuation → ℕ → List Bounds → Answer → Answer
first_out_of_bounds σ k [] after = after
first_out_of_bounds σ k (B ∷ Bs) after =
    let rest = first_out_of_bounds σ (k + 1) Bs after in
    rest if within B (σ k) else out_of_bounds k

unfoldable pub judge : {A : Type 0} → Valuation → List Bounds → (A → Bool) → List A → Answer
judge σ Bs t xs = first_out_of_bounds σ 0 Bs (first_false t 0 xs)
