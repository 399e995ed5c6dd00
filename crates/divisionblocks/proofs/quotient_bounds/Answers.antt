-- The larger of the absolute values of bounds near 0, and its opposite, are near 0.
use Rattle.std.proofs.Common.{arith}
use Rattle.integers.proofs.Fits.{back}
use Rattle.words.specs.Small.{Near}
use Rattle.divisionblocks.proofs.Largest.{larger_near}
use Rattle.divisionblocks.proofs.quotient_bounds.Goals as goal

pub new-requires : goal.new-requires
new-requires c =
    let near : Near c.larger_absolute-most.result =
    rw (c.larger_absolute-most.ensures.value, back c.lower.result c.lower.type_inv, back c.upper.result c.upper.type_inv) (larger_near c.lower.result c.upper.result c.lower.ensures.near c.upper.ensures.near) in
    rw (back c.opposite.result c.opposite.type_inv, back c.larger_absolute-most.result c.larger_absolute-most.type_inv)
    (omega (arith, near, c.opposite.ensures.size, rw (back c.larger_absolute-most.result c.larger_absolute-most.type_inv) at c.opposite.ensures.size), near)
