-- The loop's invariant is `Walking`: what is left of the bounds, or of the rows, says what all of them say.
use Rattle.std.proofs.Common.{◌≡◌, length}
use Rattle.integers.specs.Bounds.{bounds_in}
use Rattle.encodings.specs.Uses.{shared_by}
use Rattle.reasoning.proofs.Walk.{Walking}
use Rattle.reasoning.proofs.walks.walk.Given as goal

abbrev pub invariant-loop-k : goal.invariant-loop-k
invariant-loop-k l = Walking l.bounds (bounds_in l.read.domains) (shared_by l.read.uses) l.read.ws.now l.values l.k l.first l.rows l.encoded × (length l.words ≡ 3072)
