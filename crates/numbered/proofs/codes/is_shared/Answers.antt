-- A number that no builtin has shares nothing.
use Rattle.std.proofs.Common.{refl}
use Rattle.encodings.specs.Uses.{shared_by}
use Rattle.encodings.proofs.Record.{shares-by, no-choosing}
use Rattle.numbered.proofs.codes.is_shared.Goals as goal

pub returns-in-Ok : goal.returns-in-Ok
returns-in-Ok c = rw c.in-Ok.ensures at c.is_shared.ensures

pub returns-in-Err : goal.returns-in-Err
returns-in-Err c = rw (shares-by (shared_by c.args.uses.now) c.args.code c.args.args.now, no-choosing c.args.code c.in-Err.ensures.1) refl
