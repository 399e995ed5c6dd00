-- Each number is a bound or M, its opposite, or 1 less it.
use Rattle.std.proofs.Common.{to_z-of_z}
use Rattle.arguments.proofs.Size.{read}
use Rattle.rules.specs.Division.{division_table}
use Rattle.divisionblocks.proofs.table.numbers.Goals as goal

pub returns : goal.returns
unfolding division_table
returns c =
    rw (
      read c.opposite-minus_m.type_inv c.opposite-minus_m.ensures.value,
      read c.minus-one_less.type_inv c.minus-one_less.ensures.value,
      read c.opposite.type_inv c.opposite.ensures.value,
      read c.opposite-2.type_inv c.opposite-2.ensures.value,
      read c.minus.type_inv c.minus.ensures.value,
      read c.opposite-3.type_inv c.opposite-3.ensures.value,
      read c.plus.type_inv c.plus.ensures.value,
      read c.plus-2.type_inv c.plus-2.ensures.value,
      read c.lower-nl.type_inv c.lower-nl.ensures.value,
      read c.upper-nu.type_inv c.upper-nu.ensures.value,
      read c.lower-dl.type_inv c.lower-dl.ensures.value,
      read c.upper-du.type_inv c.upper-du.ensures.value,
      to_z-of_z c.ranges.m,
    )
