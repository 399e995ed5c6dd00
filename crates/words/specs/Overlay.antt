-- Laying a list over another one, from a place on; what does not fit is left out, and what stands beyond keeps its values.
-- 01, Five calls: "words past the end keep their values".
use Rattle.std.specs.Prelude.{List, [], ◌∷◌, ℕ, suc, set}

unfoldable pub overlay : {A : Type 0} → List A → ℕ → List A → List A
overlay out at [] = out
overlay out at (x ∷ xs) = overlay (set out at x) (suc at) xs
