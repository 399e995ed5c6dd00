-- The invariant is `Bounding`: what is left of the rows, with what the rows passed have at most.
use Rattle.std.proofs.Common.{length}
use Rattle.bittables.specs.BitTables.{firsts}
use Rattle.bitbounds.proofs.Bounds.{Bounding}
use Rattle.bitbounds.proofs.entries_bound.Given as goal

abbrev pub invariant-loop-at : goal.invariant-loop-at
invariant-loop-at l = Bounding l.system.words.now l.system.table.domains.now (firsts l.system.table.bits.now) l.system.start (length l.initial.row) l.row l.most l.first l.at
