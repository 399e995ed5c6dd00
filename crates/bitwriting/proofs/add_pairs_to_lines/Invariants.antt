-- The invariant is `Passing`: to the lines passed the products of bits are added.
use Rattle.std.proofs.Common.{◌+◌}
use Rattle.bittables.specs.BitTables.{firsts, row_by}
use Rattle.bitwriting.specs.PairsAdded.{PairsAdded}
use Rattle.bitwriting.proofs.Band.{Passing}
use Rattle.bitwriting.proofs.add_pairs_to_lines.Given as goal

abbrev pub invariant-loop-q : goal.invariant-loop-q
invariant-loop-q l =
    Passing (λ q. PairsAdded (row_by l.table.domains.now (firsts l.table.bits.now) l.first l.head l.args) (l.i + q)) l.n l.initial.band l.band l.q
