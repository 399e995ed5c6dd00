-- A number that no builtin has records nothing.
use Rattle.std.proofs.Common.{refl}
use Rattle.rules.specs.Shared.{encoded_after}
use Rattle.encodings.proofs.Record.{encodes-of, no-choosing}
use Rattle.numbered.proofs.codes.record_encoding.Goals as goal

pub returns-in-Ok : goal.returns-in-Ok
returns-in-Ok c = rw c.in-Ok.ensures at c.record_encoding.ensures

pub returns-in-Err : goal.returns-in-Err
unfolding encoded_after
returns-in-Err c = rw (encodes-of c.args.code c.args.args.now, no-choosing c.args.code c.in-Err.ensures.1) refl
