-- The invariant is `Checking`: what the rows left make of the tests and of the sum.
use Rattle.std.proofs.Common.{length}
use Rattle.bittables.specs.BitTables.{firsts}
use Rattle.bitchecks.proofs.Rows.{Checking}
use Rattle.bitchecks.proofs.check_rows.Given as goal

abbrev pub invariant-loop-at : goal.invariant-loop-at
invariant-loop-at l = Checking l.system.words.now l.system.table.domains.now (firsts l.system.table.bits.now) l.system.start (length l.initial.row) l.row l.constant l.first l.at
