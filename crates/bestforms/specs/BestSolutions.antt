-- What a form says of the best solutions of a row system, stated; M is the width of the variable and 1. Whole numbers have no limit of size here.
use Rattle.std.specs.Prelude.{◌≡◌, ◌↔◌, true, List, ℕ, ℤ, pos, ◌≤ℤ◌, ◌<ℤ◌, length}
use Rattle.integers.specs.Number.{◌⊕◌, ◌⊗◌, +0}
use Rattle.integers.specs.Lists.{all}
use Rattle.integers.specs.Bounds.{bounds_in}
use Rattle.integers.specs.Terms.{value}
use Rattle.words.specs.Variables.{variables}
use Rattle.rowsystems.specs.Row.{satisfied}
use Rattle.rowsystems.specs.RowSystem.{rows}
use Rattle.bitforms.specs.Energy.{energy}
use Rattle.bitforms.specs.BitForm.{bit_rows_of}
use Rattle.bitforms.specs.SameSolutions.{AreBits, InBounds, ReadAs}
use Rattle.bitanswers.specs.ReadValues.{read_values}
use Rattle.bestforms.specs.declared.Direction.{Direction}
use Rattle.bestforms.specs.BestForm.{distance, factor}

-- values inside their bounds that satisfy every row and product
abbrev pub Solves : List ℕ → List ℤ → Type 0
Solves ws vs = InBounds ws vs × (all (satisfied (value vs)) (rows ws) ≡ true)

-- how far variable v of some values is from its best bound
abbrev pub distance_in : List ℕ → ℕ → Direction → List ℤ → ℤ
distance_in ws v d vs = distance d (bounds_in (variables ws) v) (value vs v)

-- values that solve the row system, and no others that do are nearer
abbrev pub Best : List ℕ → ℕ → Direction → List ℤ → Type 0
Best ws v d vs = Solves ws vs × ((us : List ℤ) → Solves ws us → distance_in ws v d vs ≤ℤ distance_in ws v d us)

-- bits at which a form is least
pub record LeastBits (ws : List ℕ) (form : List ℤ → ℤ) (bs : List ℤ) : Type 0 where
  pub are_bits : AreBits ws bs
  pub least : (cs : List ℤ) → AreBits ws cs → form bs ≤ℤ form cs

-- of bits as many as the form has
pub record AtBits (ws : List ℕ) (v : ℕ) (d : Direction) (form : List ℤ → ℤ) (bs : List ℤ) : Type 0 where
  -- M × the energy, and the variable's distance from its best bound
  pub value_there : form bs ≡ pos (factor ws v) ⊗ energy (value bs) (bit_rows_of ws) ⊕ distance_in ws v d (read_values ws bs)
  -- that lies from 0 to M − 1
  pub distance_least : +0 ≤ℤ distance_in ws v d (read_values ws bs)
  pub distance_most : distance_in ws v d (read_values ws bs) <ℤ pos (factor ws v)
  pub never_below : +0 ≤ℤ form bs
  -- the form is below M exactly where the energy is 0
  pub below_factor : (form bs <ℤ pos (factor ws v)) ↔ (energy (value bs) (bit_rows_of ws) ≡ +0)
  -- and there the values of the bits satisfy the row system, and the form is their distance
  pub solves : form bs <ℤ pos (factor ws v) → Solves ws (read_values ws bs) × (form bs ≡ distance_in ws v d (read_values ws bs))

pub record BestSolutions (ws : List ℕ) (v : ℕ) (d : Direction) (form : List ℤ → ℤ) : Type 0 where
  pub at_bits : (bs : List ℤ) → AreBits ws bs → AtBits ws v d form bs
  -- values that solve the row system are what some bits read as at which the form is their distance
  pub reached : (vs : List ℤ) → Solves ws vs → (bs : List ℤ) × (AreBits ws bs × ReadAs ws (length (variables ws)) bs vs × (form bs ≡ distance_in ws v d vs))
  -- there are bits at which the form is least
  pub some_least : (bs : List ℤ) × LeastBits ws form bs
  -- where the row system has a solution, they read as a best one
  pub best : (vs bs : List ℤ) → Solves ws vs → LeastBits ws form bs → Best ws v d (read_values ws bs)
  -- where the least is M or more there is no solution; where it is below M there is
  pub none : (bs : List ℤ) → LeastBits ws form bs → pos (factor ws v) ≤ℤ form bs → (vs : List ℤ) → ¬ Solves ws vs
  pub some : (bs : List ℤ) → LeastBits ws form bs → form bs <ℤ pos (factor ws v) → Best ws v d (read_values ws bs)
