-- The loop's invariant is `Writing`: writing the blocks that are left gives what writing them all gives. Each lent tail comes back by `block_back`.
use Rattle.models.specs.Model.{constraints}
use Rattle.integers.specs.Bounds.{bounds_in}
use Rattle.encodings.specs.Uses.{shared_by}
use Rattle.translation.proofs.WriteWalk.{Writing}
use Rattle.translation.proofs.writing.write_blocks.Given as goal

abbrev pub invariant-loop-k : goal.invariant-loop-k
invariant-loop-k l = Writing (bounds_in l.read.domains) (shared_by l.read.uses) l.initial.first (constraints l.read.ws.now) l.initial.out l.initial.at l.out l.k l.first l.at l.encoded
