-- The lesser or larger of two such choices is the end of the four products.
use Rattle.std.proofs.Common.{◌≡◌, refl, Bool, true, false}
use Rattle.integers.specs.Choice.{◌if◌else◌}
use Rattle.integers.specs.Number.{◌⊗◌, min_z, max_z}
use Rattle.integers.specs.declared.Bounds.{Bounds}
use Rattle.integers.proofs.Fits.{back}
use Rattle.arguments.proofs.Size.{read}
use Rattle.rules.specs.Parts.{end_products}
use Rattle.extremes.proofs.Size.{pick-size}
use Rattle.extremes.proofs.end_product.Goals as goal

ends : (up : Bool) (A B : Bounds) → (max_z if up else min_z) ((max_z if up else min_z) (A.lower ⊗ B.lower) (A.lower ⊗ B.upper)) ((max_z if up else min_z) (A.upper ⊗ B.lower) (A.upper ⊗ B.upper)) ≡ ((end_products A B).upper if up else (end_products A B).lower)
unfolding end_products
ends true A B = refl
ends false A B = refl

pub returns-clause-value : goal.returns-clause-value
returns-clause-value c =
    rw (read c.pick.type_inv c.pick.ensures, read c.times_ends.type_inv c.times_ends.ensures.value, read c.times_ends-2.type_inv c.times_ends-2.ensures.value, read c.lower.type_inv c.lower.ensures.value, read c.upper.type_inv c.upper.ensures.value) (ends c.args.up c.args.a c.args.b)

pub returns-clause-size : goal.returns-clause-size
returns-clause-size c =
    rw (read c.pick.type_inv c.pick.ensures, back c.times_ends.result c.times_ends.type_inv, back c.times_ends-2.result c.times_ends-2.type_inv) (pick-size c.args.up _ _ c.times_ends.ensures.size c.times_ends-2.ensures.size)
