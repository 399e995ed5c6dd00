use Rattle.models.specs.Model.{constraints}
use Rattle.integers.specs.Bounds.{bounds_in}
use Rattle.encodings.specs.Uses.{shared_by}
use Rattle.checking.proofs.CheckWalk.{Checking}
use Rattle.checking.proofs.check_read.Given as goal

-- The loop's invariant is `Checking`: what the constraints that are left give is what all give, check's answer.
abbrev pub invariant-loop-k : goal.invariant-loop-k
invariant-loop-k l = Checking (bounds_in l.read.domains) (shared_by l.read.uses) l.read.model.variables (constraints l.read.ws.now) l.initial.words l.k l.auxiliaries l.rows l.words l.encoded
