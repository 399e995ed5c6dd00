-- A number that no builtin has counts as true.
use Rattle.integers.specs.Terms.{value}
use Rattle.builtins.proofs.Coded.{no_code}
use Rattle.numbered.proofs.codes.holds.Goals as goal

pub returns-in-Ok : goal.returns-in-Ok
returns-in-Ok c = rw c.in-Ok.ensures at c.holds.ensures

pub returns-in-Err : goal.returns-in-Err
returns-in-Err c = no_code (value c.args.values.now) c.args.code c.args.args.now c.in-Err.ensures.1
