-- The loop's invariant is `Adding`: what the rows left make of the total.
use Rattle.bittables.specs.BitTables.{firsts}
use Rattle.bitenergy.proofs.Walk.{Adding}
use Rattle.bitenergy.proofs.rows_energy.Given as goal

abbrev pub invariant-loop-at : goal.invariant-loop-at
invariant-loop-at l = Adding l.bits.bytes.now l.system.words.now l.system.table.domains.now (firsts l.system.table.bits.now) l.system.start l.total l.first l.at
