-- A signed number is its size, after a hyphen below 0.
use Rattle.std.proofs.Common.{to_z-of_z}
use Rattle.decimals.proofs.Ahead.{numeral-marked}
use Rattle.decimals.proofs.Page.number.Goals as goal

pub right-requires : goal.right-requires
right-requires c = (c.requires.0, rw (c.unsigned_abs.ensures.value, to_z-of_z c.ranges.v, ← numeral-marked) c.requires.1)

pub returns-clause-text : goal.returns-clause-text
returns-clause-text c = rw (c.unsigned_abs.ensures.value, to_z-of_z c.ranges.v, ← numeral-marked) at c.right.ensures.text
