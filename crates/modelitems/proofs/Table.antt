-- A table whose rows are given lists, each padded up with 0 to n entries: its entries are those of the lists.
-- That a table of the code is such a one is a single equation, which antt computes.
use Rattle.std.proofs.Common.{◌≡◌, refl, List, [], ◌∷◌, map, ℕ, zero, suc, ◌<◌, arith, get_or, sym, ap, ◌∙◌, Option, None}
use lib.ListN.{get_or-map}
use Rattle.models.specs.Shapes.{argument_number}
use Rattle.models.specs.declared.shape.Shape.{Shape}
use Rattle.modelitems.specs.Argument.{padded}

entry : (n : ℕ) (xs : List ℕ) (k : ℕ) → k < n → get_or (padded n xs) k 0 ≡ get_or xs k 0
entry zero xs k h = absurd (omega arith)
entry (suc n) [] zero h = refl
entry (suc n) [] (suc k) h = entry n [] k (omega arith)
entry (suc n) (x ∷ xs) zero h = refl
entry (suc n) (x ∷ xs) (suc k) h = entry n xs k (omega arith)

pub rule : (n : ℕ) (rows : List (List ℕ)) (i k : ℕ) → k < n → get_or (get_or (map (padded n) rows) i []) k 0 ≡ get_or (get_or rows i []) k 0
rule n [] i k h = refl
rule n (xs ∷ rows) zero k h = entry n xs k h
rule n (xs ∷ rows) (suc i) k h = rule n rows i k h

-- an entry of a table of arguments, by its number
pub numbered : (t : List (List (Option Shape))) (i k : ℕ) → argument_number (get_or (get_or t i []) k None) ≡ get_or (get_or (map (map argument_number) t) i []) k 0
numbered t i k = sym (ap (λ (r : List ℕ). get_or r k 0) (get_or-map (map argument_number) t i []) ∙ get_or-map argument_number (get_or t i []) k None)
