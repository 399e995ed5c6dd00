-- The table after the token has room as before.
use Rattle.symbols.proofs.Reached.{latest-next}
use Rattle.symbols.proofs.Symbols.declare_or_take.Goals as goal

pub go_on-requires : goal.go_on-requires
go_on-requires c = record {
  inside = c.requires.0.1;
  size = record { room = c.note-next.ensures.index.tree.room; size = c.note-next.ensures.index.size };
  latest = latest-next c.args.colon c.requires.0.0 c.requires.0.4 c.requires.1 c.last_declared-declared.ensures;
}

pub returns-then-token-self-clause-latest : goal.returns-then-token-self-clause-latest
returns-then-token-self-clause-latest c = latest-next c.args.colon c.requires.0.0 c.requires.0.4 c.requires.1 c.last_declared-declared.ensures
