-- What is written of a chain: first the bounds of its products, then the products.
use Rattle.std.specs.Prelude.{◌≡◌, ℕ, ◌+◌, ◌≤◌, length}
use mathlib.Core.List.{[], ◌∷◌, flat_map}
use Rattle.integers.specs.declared.Bounds.{Bounds}
use Rattle.rules.specs.Block.{numbered}
use Rattle.rules.specs.Parts.{end_products}
use Rattle.rules.specs.Power.{Chain, chain}
use Rattle.laying.specs.Part.{bound, times, bound_parts, row_parts}
use Rattle.laying.specs.Writes.{Writes}
use Rattle.laying.specs.declared.Writer.{Writer}
use Rattle.powerblocks.specs.Cut.{cut_bounds, Ranges}
use Rattle.powerblocks.specs.declared.Multiplied.{Multiplied}

-- one more product of a factor within the bounds B and the power within P: its bounds R went over the list
pub record NextRange (s r : Writer) (P R B : Bounds) : Type 0 where
  pub wrote : Writes s r (bound R.lower R.upper ∷ [])
  pub range : R ≡ cut_bounds (end_products B P)

-- the product of a factor and the power p went over the list; q is the power after it
pub record NextProduct (s r : Writer) (p q : Multiplied) (factor : ℕ) : Type 0 where
  pub wrote : Writes s r (times p.next factor p.held ∷ [])
  pub held : q.held ≡ p.next
  pub next : q.next ≡ p.next + 1

-- bounds of a chain went over the list, the last of them R
pub record RangesWritten (s r : Writer) (R : Bounds) (c : Ranges) : Type 0 where
  pub wrote : Writes s r (bound_parts c.auxiliaries)
  pub range : R ≡ c.range

-- products of a chain, whose auxiliaries are numbered from `first` on
pub record ProductsWritten (first : ℕ) (s r : Writer) (q : Multiplied) (c : Chain) (most : ℕ) : Type 0 where
  pub wrote : Writes s r (flat_map (row_parts first) c.products)
  pub held : q.held ≡ numbered first c.result
  pub next : q.next ≡ first + length c.auxiliaries
  pub few : q.next ≤ first + most

-- those of a power, whatever the bounds of its variable
abbrev pub PowerWritten : ℕ → Writer → Writer → Multiplied → ℕ → ℕ → ℕ → Type 0
PowerWritten first s r q x k most = (B : Bounds) → ProductsWritten first s r q (chain B x k) most
