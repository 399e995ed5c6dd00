-- The invariant is `Lining` of each line: with what the rows left add, its numbers are the entries.
use Rattle.std.proofs.Common.{ℕ, ◌+◌, ◌<◌, length}
use Rattle.bittables.specs.BitTables.{firsts}
use Rattle.bitwriting.specs.Bands.{line_at}
use Rattle.bitwriting.proofs.Lining.{Lining}
use Rattle.bitwriting.proofs.fill_band.Given as goal

abbrev pub invariant-loop-at : goal.invariant-loop-at
invariant-loop-at l =
    (q : ℕ) → q < l.h →
    Lining l.system.words.now l.system.table.domains.now (firsts l.system.table.bits.now) l.system.start (l.i + q) (length l.row) (line_at (length l.row) q l.band) l.row l.first l.at
