-- The invariant: the sum of what each term passed is at least, each at most 2^54 from 0.
use Rattle.std.proofs.Common.{◌≡◌, ◌*◌, ◌≤◌, nat_abs}
use Rattle.integers.specs.Bounds.{bounds_in}
use Rattle.rowsystems.specs.RowSystem.{terms_in}
use Rattle.bitforms.specs.SumOver.{sum_over}
use Rattle.bitforms.specs.BitRow.{least_term}
use Rattle.bitlines.specs.Sizes as Size
use Rattle.bitrows.proofs.least_of.Given as goal

abbrev pub invariant-loop-k : goal.invariant-loop-k
invariant-loop-k l = (l.total ≡ sum_over (least_term (bounds_in l.domains)) (terms_in l.args l.k)) × (nat_abs l.total ≤ l.k * Size.largest_product)
