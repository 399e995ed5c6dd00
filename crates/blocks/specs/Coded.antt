-- The constraint of a code and the words after its head, and whether it has an auxiliary for each value of its first argument.
use Rattle.std.specs.Prelude.{◌≡◌, Bool, false, ◌&&◌, ◌||◌, List, ℕ, ◌≤◌, eqb}
use Rattle.integers.specs.Bounds.{width, bounds_in}
use Rattle.models.specs.Model.{Constraint, var}
use Rattle.models.specs.Codes.{code_number}
use Rattle.models.specs.declared.constraint.Constraint as given
use Rattle.rules.specs.Block.{Block}
use Rattle.rules.specs.Translation.{block_of}
use Rattle.rules.specs.Check.{too_wide}
use Rattle.encodings.specs.Uses.{choosing, shared_by}
use Rattle.encodings.specs.declared.context.Context.{Context}
use Rattle.linearsums.specs.Sum.{Summed}
use Rattle.laying.specs.Part.{block_parts}
use Rattle.laying.specs.Appends.{AppendsFitting}
use Rattle.laying.specs.declared.Laid.{Laid}
use Rattle.integers.specs.declared.Bounds.{Bounds}
use Rattle.words.specs.Limit as Limit

-- its place plays no part in its block
abbrev pub constraint_of : ℕ → List ℕ → Constraint
constraint_of code ws = record { place = 0; code = code; arguments = ws }

-- 28 has, and 24, 25 and 27 have where that variable is shared
unfoldable pub has_all : (ℕ → Bool) → ℕ → List ℕ → Bool
has_all s code ws = choosing code && (eqb code 28 || s (var ws 0))

-- fault 12 is not that of the constraint
abbrev pub Narrow : (ℕ → Bounds) → List ℕ → ℕ → List ℕ → Type 0
Narrow β uses code args = too_wide β (shared_by uses) (constraint_of code args) ≡ false

-- the block of a constraint, by what it is laid by: the bounds, the counted uses and the record of encoded variables
abbrev pub block_by : Context → given.Constraint → Block
block_by k c = block_of (bounds_in k.domains.now) (shared_by k.uses.now) k.encoded.now (constraint_of (code_number c.code) c.args.now)

-- what laying it wants: fault 12 is not that of the constraint, and S is L and U where its rule has these
abbrev pub Layable : Context → given.Constraint → Bounds → Type 0
Layable k c S = Narrow (bounds_in k.domains.now) k.uses.now (code_number c.code) c.args.now × Summed (bounds_in k.domains.now) (code_number c.code) c.args.now S

-- what that leaves for the own rule of 28, which has an auxiliary for each value
abbrev pub ReifiedNarrow : (ℕ → Bounds) → ℕ → List ℕ → Type 0
ReifiedNarrow β code args = code ≡ 28 → width (β (var args 0)) ≤ Limit.set_bits

-- a block went over a list
abbrev pub Lays : Block → ℕ → Laid → Laid → List ℕ → List ℕ → Type 0
Lays B first s r out out' = AppendsFitting s r out out' (block_parts first B)
