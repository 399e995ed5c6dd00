-- The bounds of the products of a power, cut to ±2^27: the ends of a power may pass 64 bits, and those outside the range stay outside it.
use Rattle.std.specs.Prelude.{List, [], ◌∷◌, ◌++◌, ℕ, ℤ, pos}
use Rattle.integers.specs.Number.{cut}
use Rattle.integers.specs.Bounds.{◌to◌}
use Rattle.integers.specs.declared.Bounds.{Bounds}
use Rattle.words.specs.Limit as Limit
use Rattle.rules.specs.Parts.{end_products}
use Rattle.rules.specs.Power.{by_halves}

-- the first number past the range
abbrev pub past_range : ℤ
past_range = pos Limit.half

abbrev pub cut_bounds : Bounds → Bounds
cut_bounds B = cut past_range B.lower to cut past_range B.upper

-- the bounds of the products so far, and those of the power
pub record Ranges : Type 0 where
  pub auxiliaries : List Bounds
  pub range : Bounds

unfoldable pub cut_next : Ranges → Bounds → Ranges
cut_next c B = record { auxiliaries = c.auxiliaries ++ (cut_bounds (end_products B c.range) ∷ []); range = cut_bounds (end_products B c.range) }

-- of a variable within bounds
module _ (B : Bounds) where
  unfoldable pub no_range : Ranges
  no_range = record { auxiliaries = []; range = B }

  unfoldable pub cut_squared : Ranges → Ranges
  cut_squared c = cut_next c c.range

  unfoldable pub cut_multiplied : Ranges → Ranges
  cut_multiplied c = cut_next c B

  unfoldable pub cut_ranges : ℕ → Ranges
  cut_ranges k = by_halves no_range cut_squared cut_multiplied k k
