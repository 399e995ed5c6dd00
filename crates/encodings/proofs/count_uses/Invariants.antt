-- The loop's invariant is `Counting`: counting the constraints that are left gives what counting all gives.
use Rattle.models.specs.Model.{constraints}
use Rattle.encodings.proofs.Uses.{Counting}
use Rattle.encodings.proofs.count_uses.Given as goal

abbrev pub invariant-loop-place : goal.invariant-loop-place
invariant-loop-place l = Counting (constraints l.ws) l.uses l.place-index
