-- Both products are of numbers near 0.
use Rattle.std.proofs.Common.{to_z-of_z}
use Rattle.arguments.proofs.Size.{read}
use Rattle.extremes.proofs.Size.{pick-size, product-size}
use Rattle.extremes.proofs.times_ends.Goals as goal

pub returns-clause-size : goal.returns-clause-size
returns-clause-size c =
    let l = read c.times.type_inv c.times.ensures.value in
    let u = read c.times-2.type_inv c.times-2.ensures.value in
    rw (read c.pick.type_inv c.pick.ensures, l, u, to_z-of_z c.ranges.a, read c.lower.type_inv c.lower.ensures.value, read c.upper.type_inv c.upper.ensures.value)
    (pick-size c.args.up _ _ (product-size _ _ c.requires (rw c.lower.ensures.value at c.lower.ensures.near)) (product-size _ _ c.requires (rw c.upper.ensures.value at c.upper.ensures.near)))
