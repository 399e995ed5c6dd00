-- The loop writes one row in each turn: the k-th of the table.
use Rattle.laying.proofs.Written.{Writing}
use Rattle.divisionblocks.specs.Rows.{table_at}
use Rattle.divisionblocks.proofs.table.write_table.Given as goal

abbrev pub invariant-loop-row : goal.invariant-loop-row
invariant-loop-row l = Writing (table_at l.xs l.table) l.initial.writer l.writer l.row-index
