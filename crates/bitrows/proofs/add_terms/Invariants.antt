-- The loop's invariant: the terms passed are added.
use Rattle.std.proofs.Common.{◌*◌}
use Rattle.rowsystems.specs.RowSystem.{terms_in}
use Rattle.bitforms.specs.OverBits.{over_bits}
use Rattle.bitlines.specs.Sizes as Size
use Rattle.bitlines.specs.Dense.{Adds}
use Rattle.bittables.specs.BitTables.{firsts, bits_of}
use Rattle.bitrows.proofs.add_terms.Given as goal

abbrev pub invariant-loop-k : goal.invariant-loop-k
invariant-loop-k l = Adds (over_bits (bits_of l.table.domains.now (firsts l.table.bits.now)) (terms_in l.args l.k)) (l.k * Size.largest_term) l.initial.row l.row
