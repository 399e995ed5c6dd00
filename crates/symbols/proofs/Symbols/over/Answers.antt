-- No name, no link.
use Rattle.std.proofs.Common.{refl}
use Rattle.symbols.proofs.Grown.{no_names}
use Rattle.symbols.proofs.Reached.{empty_index}
use Rattle.symbols.proofs.Symbols.over.Goals as goal

pub returns-clause-index : goal.returns-clause-index
returns-clause-index c = empty_index (no_names c.requires.room refl c.requires.clear) refl c.requires.size
