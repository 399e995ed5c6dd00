-- The loop's invariant is `Putting`: the values of the variables passed are put.
use Rattle.bitforms.specs.OverBits.{evaluate}
use Rattle.bittables.specs.BitTables.{encoding_by, firsts}
use Rattle.bitreading.specs.BitsGiven.{bits_in}
use Rattle.bitvalues.proofs.Putting.{Putting}
use Rattle.bitvalues.proofs.put_values.Given as goal

abbrev pub invariant-loop-v : goal.invariant-loop-v
invariant-loop-v l = Putting (λ v. evaluate (bits_in l.bits.bytes.now) (encoding_by l.table.domains.now (firsts l.table.bits.now) v)) l.n l.initial.out l.out l.v
