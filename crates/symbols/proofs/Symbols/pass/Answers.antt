-- The table has room as before.
use Rattle.symbols.proofs.Symbols.pass.Goals as goal

pub go_on-requires : goal.go_on-requires
go_on-requires c = record {
  inside = c.requires.inside;
  size = record { room = c.requires.index.tree.room; size = c.requires.index.size };
  latest = c.requires.none;
}
