-- The rows over bits of a row system and its variables over bits.
use Rattle.std.specs.Prelude.{List}
use Rattle.bitforms.specs.BitRow.{BitRow}
use Rattle.bittables.specs.BitTables.{firsts, rows_by}
use Rattle.bittables.specs.declared.table.BitSystem.{BitSystem}

abbrev pub rows_of_system : BitSystem → List BitRow
rows_of_system s = rows_by s.table.domains.now (firsts s.table.bits.now) s.start s.words.now
