use Rattle.laying.proofs.Written.{wrote-then}
use Rattle.divisionblocks.specs.Rows.{table_parts}
use Rattle.divisionblocks.proofs.write_rows.Goals as goal

-- Two products and the rows of the table, one after the other.
pub returns : goal.returns
unfolding table_parts
returns c = wrote-then c.times.ensures (wrote-then c.times-2.ensures c.write_table.ensures)
